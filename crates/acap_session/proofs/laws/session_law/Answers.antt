use Rattle.acap_session.proofs.Alone.{session_law}
use Rattle.acap_session.proofs.laws.session_law.Goals as goal

pub returns : goal.returns
returns c = session_law
