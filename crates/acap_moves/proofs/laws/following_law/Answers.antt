use Rattle.acap_moves.proofs.FollowingLemmas.{following}
use Rattle.acap_moves.proofs.laws.following_law.Goals as goal

pub returns : goal.returns
returns g c = following
