use Rattle.std.proofs.Common.{◌≡◌, List, ap, subst, ◌∙◌}
use Rattle.std.specs.FinMap as table
use Rattle.std.specs.Ordering.{nat_cmp}
use Rattle.acap_ordmap.proofs.Logic.{OnOk_then}
use Rattle.acap_views.specs.Followed.{EachFits, FitsSeat}
use Rattle.acap_views.specs.Keeping.{seats_in}
use Rattle.acap_views.specs.Preparing.{Prepared}
use Rattle.acap_views.specs.EntryUpdates.{EntryUpdate}
use Rattle.acap_views.proofs.FollowingLemmas.{seats_fit_made}
use Rattle.acap_views.proofs.KeepingLemmas.{copied_order, copied_seats}
use Rattle.acap_views.proofs.views.Views.reserve.Goals as goal

pub invariant_of-self : goal.invariant_of-self
invariant_of-self c = copied_order c.reserve_seats.new.seats.items c.self.inside.seats.items c.reserve_seats.ensures.same c.self.invariant

pub returns-clause-same : goal.returns-clause-same
returns-clause-same c =
    copied_seats c.reserve_seats.new.seats.items c.self.inside.seats.items (seats_in c.args.self.now) c.reserve_seats.ensures.same c.self.invariant (ap seats_in c.self.view_is)

pub returns-clause-room : goal.returns-clause-room
returns-clause-room c =
    let items = c.reserve_seats.new.seats.items in
    let order = copied_order items c.self.inside.seats.items c.reserve_seats.ensures.same c.self.invariant in
    let same : c.as_slice.result.now ≡ c.args.delta.now.seats = c.as_slice.ensures ∙ ap (λ (d : Prepared). d.seats) c.delta.view_is in
    OnOk_then c.reserve_seats.result
    (λ r. subst (λ (ts : List (List (List EntryUpdate))). EachFits FitsSeat ts (table.entries (table.from_sorted {R = nat_cmp} items))) same (seats_fit_made c.as_slice.result.now items order r))
    c.reserve_seats.ensures.room
