use Rattle.acap_session.proofs.Cutting.{cutting}
use Rattle.acap_session.proofs.laws.cutting_law.Goals as goal

pub returns : goal.returns
returns c = cutting
