use Rattle.std.proofs.Common.{◌≡◌, length}
use Rattle.acap_entries.specs.Orders.{octets_cmp}
use Rattle.acap_entries.proofs.comparing.compare.Given as goal

abbrev pub invariant-words : goal.invariant-words
invariant-words l = octets_cmp l.left l.right ≡ octets_cmp l.a l.b

abbrev pub decreases-words : goal.decreases-words
decreases-words l = length l.left
