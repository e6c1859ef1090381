use Rattle.std.proofs.Common.{ap, ◌∙◌}
use Rattle.std.specs.Cmp.{nat_cmp_total}
use Rattle.std.specs.FinMap as table
use Rattle.std.specs.FinMap.{nat_cmp-IsAntisymmetric}
use Rattle.std.specs.Ordering.{nat_cmp}
use Rattle.acap_ordmap.proofs.MapLemmas.{remove_kept, without_in_order}
use Rattle.acap_views.specs.Keeping.{occupant_in, seats_in}
use Rattle.acap_views.specs.Listing.{as_seated}
use Rattle.acap_views.specs.Maps.{each_value}
use Rattle.acap_views.proofs.KeepingLemmas.{seat_remove}
use Rattle.acap_views.proofs.views.Views.leave.Goals as goal

pub invariant_of-self : goal.invariant_of-self
invariant_of-self c = rw c.take_out.ensures.items (without_in_order nat_cmp nat_cmp_total _ _ c.self.invariant)

pub returns : goal.returns
returns c =
    ap as_seated c.take_out.ensures.items
    ∙ (ap (each_value occupant_in) (remove_kept nat_cmp nat_cmp_total nat_cmp-IsAntisymmetric c.self.inside.seats.items c.args.seat c.self.invariant)
    ∙ (seat_remove (table.from_sorted c.self.inside.seats.items) c.args.seat
    ∙ ap (λ v. table.remove (seats_in v) c.args.seat) c.self.view_is))
