use Rattle.acap_session.proofs.Cutting.{turns_keep}
use Rattle.acap_session.proofs.laws.turns_keep.Goals as goal

pub returns : goal.returns
returns c = turns_keep
