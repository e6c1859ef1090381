use Rattle.acap_session.proofs.Taking.{taking_law}
use Rattle.acap_session.proofs.laws.taking_law.Goals as goal

pub returns : goal.returns
returns c = taking_law
