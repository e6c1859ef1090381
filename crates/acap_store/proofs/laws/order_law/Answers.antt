use Rattle.acap_store.proofs.StoreLaws.{order}
use Rattle.acap_store.proofs.laws.order_law.Goals as goal

pub returns : goal.returns
returns c = order
