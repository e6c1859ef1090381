use Rattle.acap_rights.proofs.RightsLemmas.{order_law}
use Rattle.acap_rights.proofs.laws.order_law.Goals as goal

pub returns : goal.returns
returns c = order_law
