use Rattle.std.proofs.Common.{◌≡◌, length}
use Rattle.acap_entries.specs.Orders.{octets_cmp}
use Rattle.acap_entries.proofs.comparing.by_octets.Given as goal

abbrev pub invariant-octets : goal.invariant-octets
invariant-octets l = octets_cmp l.left l.right ≡ octets_cmp l.a l.b

abbrev pub decreases-octets : goal.decreases-octets
decreases-octets l = length l.left
