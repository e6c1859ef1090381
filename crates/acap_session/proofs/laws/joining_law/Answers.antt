use Rattle.acap_session.proofs.Cutting.{joining}
use Rattle.acap_session.proofs.laws.joining_law.Goals as goal

pub returns : goal.returns
returns c = joining
