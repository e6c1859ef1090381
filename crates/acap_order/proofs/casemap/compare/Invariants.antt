use Rattle.std.proofs.Common.{◌≡◌, length}
use Rattle.acap_order.specs.Ranks.{upper_case, octets_cmp}
use Rattle.acap_order.proofs.casemap.compare.Given as goal

abbrev pub invariant-loop-x : goal.invariant-loop-x
invariant-loop-x l = octets_cmp (upper_case l.left) (upper_case l.right) ≡ octets_cmp (upper_case l.a) (upper_case l.b)

abbrev pub decreases-loop-x : goal.decreases-loop-x
decreases-loop-x l = length l.left
