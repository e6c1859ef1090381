use Rattle.std.proofs.Common.{drop}
use Rattle.acap_client.proofs.Numbers.{IsSoFar}
use Rattle.acap_client.proofs.counting.value_within.Given as goal

abbrev pub invariant-loop-digit : goal.invariant-loop-digit
invariant-loop-digit l = IsSoFar l.digits l.fn.most l.count (drop l.digit-index l.digits)
