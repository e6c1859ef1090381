use Rattle.std.proofs.Common.{◌≡◌, drop, map as each}
use Rattle.acap_views.specs.Followed.{EachFits, FitsSeat}
use Rattle.acap_views.specs.Listing.{bare_seat}
use Rattle.acap_views.proofs.FollowingLemmas.{after_each, through, seat_turn}
use Rattle.acap_views.proofs.following.follow_seats.Given as goal

abbrev pub invariant-loop-at_seat : goal.invariant-loop-at_seat
invariant-loop-at_seat l = record {
  followed : through seat_turn l.at l.at_seat-iterator.rest.items (each bare_seat l.seats.items) ≡ after_each seat_turn l.fn.turns.items (each bare_seat l.fn.seats.items);
  room : EachFits FitsSeat l.at_seat-iterator.rest.items (drop l.at l.seats.items);
}
