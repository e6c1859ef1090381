use Rattle.acap_client.proofs.Leading.{IsSoFar}
use Rattle.acap_client.proofs.advance.advance.Given as goal
use Rattle.std.proofs.Common.{length}

abbrev pub invariant-octets : goal.invariant-octets
invariant-octets l = IsSoFar l.fn.limit l.initial.at l.octets l.initial.draft l.at l.left l.draft

abbrev pub decreases-octets : goal.decreases-octets
decreases-octets l = length l.left
