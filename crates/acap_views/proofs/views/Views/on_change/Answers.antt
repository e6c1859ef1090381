use Rattle.std.proofs.Common.{◌≡◌, List, ap, sym, subst, ◌∙◌, map as each}
use Rattle.acap_views.specs.Followed.{EachFits, FitsSeat}
use Rattle.acap_views.specs.Keeping.{RoomySeats, seats_in}
use Rattle.acap_views.specs.Listing.{bare_seat}
use Rattle.acap_views.specs.Preparing.{Prepared, seats_after}
use Rattle.acap_views.specs.EntryUpdates.{EntryUpdate}
use Rattle.acap_views.proofs.FollowingLemmas.{seats_fit, seats_turned, turned_seats}
use Rattle.acap_views.proofs.views.Views.on_change.Goals as goal

pub follow_seats-requires : goal.follow_seats-requires
follow_seats-requires c =
    let same : c.into_vec.result.items ≡ c.args.delta.seats = c.into_vec.ensures ∙ ap (λ (d : Prepared). d.seats) c.delta.view_is in
    subst (λ (ts : List (List (List EntryUpdate))). EachFits FitsSeat ts c.self.inside.seats.items) (sym same)
    (seats_fit c.args.delta.seats c.self.inside.seats.items c.args.self.now.seats c.self.invariant (ap (λ (v : RoomySeats). v.seats) c.self.view_is) c.requires)

pub invariant_of-self : goal.invariant_of-self
invariant_of-self c =
    let es = c.self.inside.seats.items in
    let same : c.into_vec.result.items ≡ c.args.delta.seats = c.into_vec.ensures ∙ ap (λ (d : Prepared). d.seats) c.delta.view_is in
    seats_turned c.args.delta.seats es c.follow_seats.new.seats.items c.self.invariant
    (c.follow_seats.ensures ∙ ap (λ (ts : List (List (List EntryUpdate))). seats_after ts (each bare_seat es)) same)

pub returns : goal.returns
returns c =
    let es = c.self.inside.seats.items in
    let same : c.into_vec.result.items ≡ c.args.delta.seats = c.into_vec.ensures ∙ ap (λ (d : Prepared). d.seats) c.delta.view_is in
    turned_seats c.args.delta.seats es c.follow_seats.new.seats.items c.self.invariant
    (c.follow_seats.ensures ∙ ap (λ (ts : List (List (List EntryUpdate))). seats_after ts (each bare_seat es)) same) (seats_in c.args.self.now) (ap seats_in c.self.view_is)
