use Rattle.std.proofs.Common.{◌≡◌, take, map as each}
use Rattle.acap_views.specs.Followed.{EachFits, FitsContext}
use Rattle.acap_views.specs.Listing.{bare}
use Rattle.acap_views.proofs.following.reserve_all.Given as goal

abbrev pub invariant-loop-at : goal.invariant-loop-at
invariant-loop-at l = record {
  same : each bare l.contexts.items ≡ each bare l.fn.contexts.items;
  room : EachFits FitsContext (take l.at l.turns) l.contexts.items;
}
