use Rattle.acap_order.proofs.LawLemmas.{equality}
use Rattle.acap_order.proofs.laws.equality_law.Goals as goal

pub returns : goal.returns
returns c = equality
