use Rattle.std.proofs.Common.{◌<◌, refl, sym, subst, ap, ◌∙◌, arith, Option}
use Rattle.std.specs.Ordering.{nat_cmp}
use Rattle.std.specs.Option.{IsSomeAnd}
use Rattle.acap_ordmap.proofs.Logic.{OnOk_also}
use Rattle.acap_views.specs.Keeping.{RoomyOccupant, contexts_in, seats_in}
use Rattle.acap_views.proofs.KeepingLemmas.{seats_in_order, same_seats, somebody_tied, new_there}
use Rattle.acap_views.proofs.ValueLemmas.{place_in, tied_slice}
use Rattle.acap_views.proofs.views.Views.reserve_context.Goals as goal

pub index_mut-requires : goal.index_mut-requires
index_mut-requires c =
    let es = c.self.inside.seats.items in
    let seat = c.args.seat in
    let tied = somebody_tied es seat c.self.invariant (seats_in c.args.self.now) (ap seats_in c.self.view_is) c.requires in
    let here = tied_slice nat_cmp seat c.as_slice.result.now es _ c.place_of-at.ensures.tied c.as_slice.ensures.value tied in
    omega (arith, c.place_of-at.ensures.below here, c.as_slice.ensures.len)

pub invariant_of-self : goal.invariant_of-self
invariant_of-self c =
    let es = c.self.inside.seats.items in
    let seat = c.args.seat in
    let tied = somebody_tied es seat c.self.invariant (seats_in c.args.self.now) (ap seats_in c.self.view_is) c.requires in
    let place = place_in nat_cmp seat c.as_slice.result.now es _ c.place_of-at.ensures.place c.as_slice.ensures.value in
    seats_in_order es seat c.self.invariant _ c.place_of-at.result.0 c.index_mut.result.now c.make_room.new.self tied place refl c.index_mut.ensures.value

pub returns-clause-same : goal.returns-clause-same
returns-clause-same c =
    let es = c.self.inside.seats.items in
    let seat = c.args.seat in
    let tied = somebody_tied es seat c.self.invariant (seats_in c.args.self.now) (ap seats_in c.self.view_is) c.requires in
    let place = place_in nat_cmp seat c.as_slice.result.now es _ c.place_of-at.ensures.place c.as_slice.ensures.value in
    same_seats es seat c.self.invariant _ c.place_of-at.result.0 c.index_mut.result.now c.make_room.new.self tied place refl c.index_mut.ensures.value c.make_room.ensures.user (ap contexts_in c.make_room.ensures.contexts) ∙ ap seats_in c.self.view_is

pub returns-clause-room : goal.returns-clause-room
returns-clause-room c =
    let es = c.self.inside.seats.items in
    let seat = c.args.seat in
    let tied = somebody_tied es seat c.self.invariant (seats_in c.args.self.now) (ap seats_in c.self.view_is) c.requires in
    let place = place_in nat_cmp seat c.as_slice.result.now es _ c.place_of-at.ensures.place c.as_slice.ensures.value in
    OnOk_also c.make_room.result c.make_room.ensures.ok (λ room.
    subst (λ (o : Option RoomyOccupant). IsSomeAnd o (λ (occupant : RoomyOccupant). 0 < occupant.spare)) (sym (new_there es seat c.self.invariant _ c.place_of-at.result.0 c.index_mut.result.now c.make_room.new.self tied place refl c.index_mut.ensures.value)) room)
