use Rattle.std.proofs.Common.{◌≡◌, nat_eq, length}
use Rattle.std.specs.List.{starts_with}
use Rattle.acap_order.specs.Ranks.{upper_case}
use Rattle.acap_order.proofs.casemap.begins_with.Given as goal

abbrev pub invariant-loop-y : goal.invariant-loop-y
invariant-loop-y l =
    starts_with nat_eq (upper_case l.left) (upper_case l.wanted) ≡ starts_with nat_eq (upper_case l.text) (upper_case l.pattern)

abbrev pub decreases-loop-y : goal.decreases-loop-y
decreases-loop-y l = length l.wanted
