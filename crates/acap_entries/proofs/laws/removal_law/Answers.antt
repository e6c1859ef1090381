use Rattle.acap_entries.proofs.StoreLaws.{removal}
use Rattle.acap_entries.proofs.laws.removal_law.Goals as goal

pub returns : goal.returns
returns c = removal
