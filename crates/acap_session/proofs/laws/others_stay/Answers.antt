use Rattle.acap_session.proofs.Alone.{others_stay}
use Rattle.acap_session.proofs.laws.others_stay.Goals as goal

pub returns : goal.returns
returns c = others_stay
