use Rattle.std.proofs.Common.{◌≡◌, map as each}
use Rattle.acap_views.specs.Listing.{bare}
use Rattle.acap_views.proofs.contexts.gather_each.Given as goal

abbrev pub invariant-loop-at : goal.invariant-loop-at
invariant-loop-at l = each bare l.contexts.items ≡ each bare l.fn.contexts.items
