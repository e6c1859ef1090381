use Rattle.std.proofs.Common.{length}
use Rattle.acap_client.proofs.Fronts.{IsSoFar}
use Rattle.acap_client.proofs.data.skip.Given as goal

abbrev pub invariant-tokens : goal.invariant-tokens
invariant-tokens l = IsSoFar l.tokens l.left l.depth

abbrev pub decreases-tokens : goal.decreases-tokens
decreases-tokens l = length l.left
