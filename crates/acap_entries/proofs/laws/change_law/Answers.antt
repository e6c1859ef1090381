use Rattle.acap_entries.proofs.StoreLaws.{same_store}
use Rattle.acap_entries.proofs.laws.change_law.Goals as goal

pub returns : goal.returns
returns c = same_store
