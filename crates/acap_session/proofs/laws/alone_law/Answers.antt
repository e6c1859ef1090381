use Rattle.acap_session.proofs.Alone.{alone}
use Rattle.acap_session.proofs.laws.alone_law.Goals as goal

pub returns : goal.returns
returns c = alone
