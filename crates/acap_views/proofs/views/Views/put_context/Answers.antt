use Rattle.std.proofs.Common.{◌<◌, refl, ap, ◌∙◌, arith}
use Rattle.std.specs.Ordering.{nat_cmp}
use Rattle.std.specs.FinMap as table
use Rattle.acap_views.specs.Answering.{NamedContext}
use Rattle.acap_views.specs.Contexts.{Contexts}
use Rattle.acap_views.specs.Keeping.{RoomyOccupant, contexts_in, seats_in}
use Rattle.acap_views.proofs.KeepingLemmas.{contexts_insert, seats_in_order, changed_in, place_tied, there_so}
use Rattle.acap_views.proofs.ValueLemmas.{place_in, tied_slice}
use Rattle.acap_views.proofs.views.Views.put_context.Goals as goal

pub index_mut-requires : goal.index_mut-requires
index_mut-requires c =
    let es = c.self.inside.seats.items in
    let seat = c.args.seat in
    let tied = place_tied es seat c.self.invariant (λ occupant. 0 < occupant.spare) (rw (← c.self.view_is) at c.requires) in
    let here = tied_slice nat_cmp seat c.as_slice.result.now es _ c.place_of-at.ensures.tied c.as_slice.ensures.value tied in
    omega (arith, c.place_of-at.ensures.below here, c.as_slice.ensures.len)

pub put-requires : goal.put-requires
put-requires c =
    let es = c.self.inside.seats.items in
    let seat = c.args.seat in
    let tied = place_tied es seat c.self.invariant (λ occupant. 0 < occupant.spare) (rw (← c.self.view_is) at c.requires) in
    let place = place_in nat_cmp seat c.as_slice.result.now es _ c.place_of-at.ensures.place c.as_slice.ensures.value in
    there_so es seat c.self.invariant _ c.place_of-at.result.0 c.index_mut.result.now c.index_mut.result.now.1 tied place refl c.index_mut.ensures.value (λ (occupant : RoomyOccupant). 0 < occupant.spare) (rw (← c.self.view_is) at c.requires)

pub invariant_of-self : goal.invariant_of-self
invariant_of-self c =
    let es = c.self.inside.seats.items in
    let seat = c.args.seat in
    let tied = place_tied es seat c.self.invariant (λ occupant. 0 < occupant.spare) (rw (← c.self.view_is) at c.requires) in
    let place = place_in nat_cmp seat c.as_slice.result.now es _ c.place_of-at.ensures.place c.as_slice.ensures.value in
    seats_in_order es seat c.self.invariant _ c.place_of-at.result.0 c.index_mut.result.now c.put.new.self tied place refl c.index_mut.ensures.value

pub returns : goal.returns
returns c =
    let es = c.self.inside.seats.items in
    let seat = c.args.seat in
    let tied = place_tied es seat c.self.invariant (λ occupant. 0 < occupant.spare) (rw (← c.self.view_is) at c.requires) in
    let place = place_in nat_cmp seat c.as_slice.result.now es _ c.place_of-at.ensures.place c.as_slice.ensures.value in
    let new = c.args.new in
    let old = c.index_mut.result.now.1.contexts in
    changed_in es seat c.self.invariant _ c.place_of-at.result.0 c.index_mut.result.now c.put.new.self tied place refl c.index_mut.ensures.value (seats_in c.args.self.now) (λ (cs : Contexts). table.insert cs new.name new.kept.context) (ap seats_in c.self.view_is)
    c.put.ensures.user (ap contexts_in c.put.ensures.contexts ∙ (contexts_insert old c.new.inside.name c.new.inside.context ∙ ap (λ (v : NamedContext). table.insert (contexts_in old) v.name v.kept.context) c.new.view_is))
