use Rattle.acap_moves.proofs.Mixed.{mixed_steps}
use Rattle.acap_moves.proofs.laws.mixed_law.Goals as goal

pub returns : goal.returns
returns g c = mixed_steps
