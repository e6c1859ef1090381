use Rattle.acap_session.proofs.Refusing.{written}
use Rattle.acap_session.proofs.laws.written_law.Goals as goal

pub returns : goal.returns
returns c = written
