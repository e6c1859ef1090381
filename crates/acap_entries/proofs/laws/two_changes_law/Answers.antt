use Rattle.acap_entries.proofs.StoreLaws.{two_changes}
use Rattle.acap_entries.proofs.laws.two_changes_law.Goals as goal

pub returns : goal.returns
returns c = two_changes
