use Rattle.acap_session.proofs.Alone.{step_alone}
use Rattle.acap_session.proofs.laws.step_alone.Goals as goal

pub returns : goal.returns
returns c = step_alone
