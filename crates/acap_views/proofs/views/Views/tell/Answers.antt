use Rattle.std.proofs.Common.{refl, ap}
use Rattle.std.specs.Ordering.{nat_cmp}
use Rattle.acap_views.specs.Contexts.{Contexts}
use Rattle.acap_views.specs.Keeping.{seats_in}
use Rattle.acap_views.specs.Telling.{after_updates}
use Rattle.acap_views.proofs.KeepingLemmas.{seats_in_order, changed_in, empty_in}
use Rattle.acap_views.proofs.ValueLemmas.{tied_in, place_in}
use Rattle.acap_views.proofs.views.Views.tell.Goals as goal

pub returns-then-not-tied : goal.returns-then-not-tied
returns-then-not-tied c =
    let es = c.self.inside.seats.items in
    let seat = c.args.seat in
    let tied = tied_in nat_cmp seat c.as_slice.result.now es _ _ c.place_of-at.ensures.tied c.if-not-tied.true c.as_slice.ensures.value in
    empty_in es seat c.self.invariant (seats_in c.args.self.now) _ (ap seats_in c.self.view_is) tied

pub invariant_of-self : goal.invariant_of-self
invariant_of-self c =
    let es = c.self.inside.seats.items in
    let seat = c.args.seat in
    let tied = tied_in nat_cmp seat c.as_slice.result.now es _ _ c.place_of-at.ensures.tied c.if-not-tied.false c.as_slice.ensures.value in
    let place = place_in nat_cmp seat c.as_slice.result.now es _ c.place_of-at.ensures.place c.as_slice.ensures.value in
    seats_in_order es seat c.self.invariant _ c.place_of-at.result.0 c.index_mut.result.now c.tell.new.self tied place refl c.index_mut.ensures.value

pub returns : goal.returns
returns c =
    let es = c.self.inside.seats.items in
    let seat = c.args.seat in
    let tied = tied_in nat_cmp seat c.as_slice.result.now es _ _ c.place_of-at.ensures.tied c.if-not-tied.false c.as_slice.ensures.value in
    let place = place_in nat_cmp seat c.as_slice.result.now es _ c.place_of-at.ensures.place c.as_slice.ensures.value in
    changed_in es seat c.self.invariant _ c.place_of-at.result.0 c.index_mut.result.now c.tell.new.self tied place refl c.index_mut.ensures.value (seats_in c.args.self.now) (λ (cs : Contexts). after_updates cs c.args.names.now c.args.last) (ap seats_in c.self.view_is) c.tell.ensures.user c.tell.ensures.told
