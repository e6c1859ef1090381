use Rattle.acap_moves.proofs.MoveLemmas.{moves}
use Rattle.acap_moves.proofs.laws.moves_law.Goals as goal

pub returns : goal.returns
returns g c = moves
