use Rattle.std.proofs.Common.{◌≡◌, take, map as each}
use Rattle.acap_views.specs.Followed.{EachFits, FitsSeat}
use Rattle.acap_views.specs.Listing.{bare_seat}
use Rattle.acap_views.proofs.following.reserve_seats.Given as goal

abbrev pub invariant-loop-at : goal.invariant-loop-at
invariant-loop-at l = record {
  same : each bare_seat l.seats.items ≡ each bare_seat l.fn.seats.items;
  room : EachFits FitsSeat (take l.at l.turns) l.seats.items;
}
