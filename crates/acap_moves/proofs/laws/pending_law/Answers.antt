use Rattle.acap_moves.proofs.FollowingLemmas.{pending}
use Rattle.acap_moves.proofs.laws.pending_law.Goals as goal

pub returns : goal.returns
returns g c = pending
