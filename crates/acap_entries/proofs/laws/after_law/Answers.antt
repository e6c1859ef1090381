use Rattle.acap_entries.proofs.StoreLaws.{value_after}
use Rattle.acap_entries.proofs.laws.after_law.Goals as goal

pub returns : goal.returns
returns c = value_after
