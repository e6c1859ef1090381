use Rattle.std.proofs.Common.{ap}
use Rattle.acap_ordmap.proofs.Logic.{OnOk_then}
use Rattle.acap_views.specs.Keeping.{RoomyOccupant}
use Rattle.acap_views.proofs.FollowingLemmas.{fits_made, same_occupant}
use Rattle.acap_views.proofs.InPlaceLemmas.{same_order}
use Rattle.acap_views.proofs.seat_contexts.SeatContexts.reserve.Goals as goal

pub invariant_of-self : goal.invariant_of-self
invariant_of-self c = same_order c.reserve_all.new.contexts.items c.self.inside.contexts.items c.reserve_all.ensures.same c.self.invariant

pub returns-clause-same : goal.returns-clause-same
returns-clause-same c =
    same_occupant c.self.inside.contexts.items c.reserve_all.new.contexts.items c.args.self.now c.self.inside.user c.self.invariant c.reserve_all.ensures.same
    (ap (λ (o : RoomyOccupant). o.user) c.self.view_is) (ap (λ (o : RoomyOccupant). o.contexts) c.self.view_is)

pub returns-clause-room : goal.returns-clause-room
returns-clause-room c =
    let order = same_order c.reserve_all.new.contexts.items c.self.inside.contexts.items c.reserve_all.ensures.same c.self.invariant in
    OnOk_then c.reserve_all.result (fits_made c.args.turns.now c.reserve_all.new.contexts.items order) c.reserve_all.ensures.room
