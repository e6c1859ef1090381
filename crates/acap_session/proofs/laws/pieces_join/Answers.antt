use Rattle.acap_session.proofs.Cutting.{pieces_join}
use Rattle.acap_session.proofs.laws.pieces_join.Goals as goal

pub returns : goal.returns
returns c = pieces_join
