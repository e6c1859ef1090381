use Rattle.std.proofs.Common.{ap, ◌∙◌}
use Rattle.std.specs.Cmp.{nat_cmp_total}
use Rattle.std.specs.FinMap as table
use Rattle.std.specs.Ordering.{nat_cmp}
use Rattle.acap_ordmap.proofs.MapLemmas.{insert_kept, put_in_order}
use Rattle.acap_views.specs.Keeping.{occupant_in, seats_in}
use Rattle.acap_views.specs.Listing.{as_seated}
use Rattle.acap_views.specs.Maps.{each_value}
use Rattle.acap_views.specs.Seats.{with_user}
use Rattle.acap_views.proofs.KeepingLemmas.{seat_insert}
use Rattle.acap_views.proofs.views.Views.take_seat.Goals as goal

pub invariant_of-self : goal.invariant_of-self
invariant_of-self c = rw c.put_in_room.ensures.items (put_in_order nat_cmp nat_cmp_total _ _ _ c.self.invariant)

pub returns : goal.returns
returns c =
    let seats = c.self.inside.seats.items in
    let sitting = c.new-sitting.result in
    ap as_seated c.put_in_room.ensures.items
    ∙ (ap (each_value occupant_in) (insert_kept nat_cmp nat_cmp_total seats c.args.seat sitting c.self.invariant)
    ∙ (seat_insert (table.from_sorted seats) c.args.seat sitting
    ∙ (ap (table.insert (as_seated seats) c.args.seat) c.new-sitting.ensures
    ∙ ap (λ v. with_user (seats_in v) c.args.seat c.args.user) c.self.view_is)))
