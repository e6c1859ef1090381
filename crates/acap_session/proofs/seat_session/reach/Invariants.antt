use Rattle.std.proofs.Common.{◌≡◌, ◌<◌, ◌+◌, ◌-◌, length}
use Rattle.std.specs.Vec.{vec_capacity}
use Rattle.acap_session.specs.Places.{places_up_to}
use Rattle.acap_session.proofs.seat_session.reach.Given as goal

abbrev pub invariant-nobody : goal.invariant-nobody
invariant-nobody l = record {
  same : places_up_to l.places.items l.index ≡ places_up_to l.fn.places.items l.index;
  room : l.index < vec_capacity l.places;
}

abbrev pub decreases-nobody : goal.decreases-nobody
decreases-nobody l = l.index + 1 - length l.places.items
