use Rattle.acap_entries.proofs.TimeLaws.{time_law}
use Rattle.acap_entries.proofs.laws.time_law.Goals as goal

pub returns : goal.returns
returns c = time_law
