use Rattle.std.proofs.Common.{◌≡◌, take, map as each}
use Rattle.acap_views.specs.Listing.{bare_seat}
use Rattle.acap_views.proofs.views.copy_each.Given as goal

abbrev pub invariant-loop-entry : goal.invariant-loop-entry
invariant-loop-entry l = each bare_seat l.made.items ≡ each bare_seat (take l.entry-index l.entry-items)
