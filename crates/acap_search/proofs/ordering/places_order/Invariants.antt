use Rattle.std.proofs.Common.{◌≡◌, length}
use Rattle.acap_search.specs.Places.{places_cmp}
use Rattle.acap_search.proofs.ordering.places_order.Given as goal

abbrev pub invariant-loop-x : goal.invariant-loop-x
invariant-loop-x l = places_cmp l.left l.right ≡ places_cmp l.a l.b

abbrev pub decreases-loop-x : goal.decreases-loop-x
decreases-loop-x l = length l.left
