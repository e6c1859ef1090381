use Rattle.std.proofs.Common.{◌≡◌, take, map as each}
use Rattle.acap_views.specs.Listing.{bare}
use Rattle.acap_views.proofs.contexts.copy_each.Given as goal

abbrev pub invariant-loop-entry : goal.invariant-loop-entry
invariant-loop-entry l = each bare l.made.items ≡ each bare (take l.entry-index l.entry-items)
