use Rattle.acap_moves.proofs.MoveLemmas.{undo}
use Rattle.acap_moves.proofs.laws.undo_law.Goals as goal

pub returns : goal.returns
returns g c = undo
