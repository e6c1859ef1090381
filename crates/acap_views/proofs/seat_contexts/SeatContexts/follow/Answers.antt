use Rattle.std.proofs.Common.{ap}
use Rattle.acap_views.specs.Keeping.{RoomyOccupant}
use Rattle.acap_views.proofs.FollowingLemmas.{fits_entries, turned_order, turned_occupant}
use Rattle.acap_views.proofs.seat_contexts.SeatContexts.follow.Goals as goal

pub follow_all-requires : goal.follow_all-requires
follow_all-requires c = fits_entries c.args.turns c.self.inside.contexts.items c.args.self.now c.self.invariant (ap (λ (o : RoomyOccupant). o.contexts) c.self.view_is) c.requires

pub invariant_of-self : goal.invariant_of-self
invariant_of-self c = turned_order c.args.turns c.self.inside.contexts.items c.follow_all.new.contexts.items c.self.invariant c.follow_all.ensures

pub returns : goal.returns
returns c =
    turned_occupant c.args.turns c.self.inside.contexts.items c.follow_all.new.contexts.items c.self.invariant c.follow_all.ensures c.args.self.now c.self.inside.user
    (ap (λ (o : RoomyOccupant). o.user) c.self.view_is) (ap (λ (o : RoomyOccupant). o.contexts) c.self.view_is)
