use Rattle.std.proofs.Common.{◌≡◌, length}
use Rattle.acap_order.specs.Ranks.{upper_case}
use Rattle.acap_order.specs.Matching.{stands}
use Rattle.acap_order.proofs.casemap.contains_by_places.Given as goal

abbrev pub invariant-loop-octet : goal.invariant-loop-octet
invariant-loop-octet l = stands (upper_case l.rest) (upper_case l.pattern) ≡ stands (upper_case l.text) (upper_case l.pattern)

abbrev pub decreases-loop-octet : goal.decreases-loop-octet
decreases-loop-octet l = length l.rest
