use Rattle.std.proofs.Common.{◌≡◌, ◌++◌, take, drop, map as each}
use Rattle.acap_views.specs.Listing.{bare, told_entry}
use Rattle.acap_views.proofs.contexts.tell_all.Given as goal

abbrev pub invariant-loop-entry : goal.invariant-loop-entry
invariant-loop-entry l = each bare l.entry-items ≡ each told_entry (take l.entry-index (each bare l.fn.contexts.items)) ++ drop l.entry-index (each bare l.fn.contexts.items)
