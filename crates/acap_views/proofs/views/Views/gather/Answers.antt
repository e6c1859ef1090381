use Rattle.std.proofs.Common.{refl, ap, ◌∙◌}
use Rattle.std.specs.Ordering.{nat_cmp}
use Rattle.acap_views.specs.Keeping.{seats_in}
use Rattle.acap_views.proofs.KeepingLemmas.{same_seats, seats_in_order}
use Rattle.acap_views.proofs.ValueLemmas.{tied_in, place_in}
use Rattle.acap_views.proofs.views.Views.gather.Goals as goal

pub invariant_of-self : goal.invariant_of-self
invariant_of-self c =
    let es = c.self.inside.seats.items in
    let seat = c.args.seat in
    let tied = tied_in nat_cmp seat c.as_slice.result.now es _ _ c.place_of-at.ensures.tied c.if-not-tied.false c.as_slice.ensures.value in
    let place = place_in nat_cmp seat c.as_slice.result.now es _ c.place_of-at.ensures.place c.as_slice.ensures.value in
    seats_in_order es seat c.self.invariant _ c.place_of-at.result.0 c.index_mut.result.now c.gather.new.self tied place refl c.index_mut.ensures.value

pub returns : goal.returns
returns c =
    let es = c.self.inside.seats.items in
    let seat = c.args.seat in
    let tied = tied_in nat_cmp seat c.as_slice.result.now es _ _ c.place_of-at.ensures.tied c.if-not-tied.false c.as_slice.ensures.value in
    let place = place_in nat_cmp seat c.as_slice.result.now es _ c.place_of-at.ensures.place c.as_slice.ensures.value in
    same_seats es seat c.self.invariant _ c.place_of-at.result.0 c.index_mut.result.now c.gather.new.self tied place refl c.index_mut.ensures.value c.gather.ensures.user c.gather.ensures.contexts
    ∙ ap seats_in c.self.view_is
