use Rattle.acap_order.proofs.LawLemmas.{comparator_total}
use Rattle.acap_order.proofs.laws.order_law.Goals as goal

pub returns : goal.returns
returns c = comparator_total
