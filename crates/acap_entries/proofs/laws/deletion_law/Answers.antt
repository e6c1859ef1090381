use Rattle.acap_entries.proofs.DeletionLaws.{deletions_kept}
use Rattle.acap_entries.proofs.laws.deletion_law.Goals as goal

pub returns : goal.returns
returns c = deletions_kept
