use Rattle.std.proofs.Common.{◌≡◌, sym, subst}
use Rattle.std.specs.Result.{IfOk}
use Rattle.acap_views.specs.Holds.{kept_in}
use Rattle.acap_views.specs.Keeping.{RoomyContext}
use Rattle.acap_views.specs.Plans.{needed_in}
use Rattle.acap_views.specs.declared.context_lists.ContextLists.{ContextLists}
use Rattle.acap_views.proofs.seat_updates.turn_of.Goals as goal

pub returns-in_ok-work-in-Live-clause-shifts : goal.returns-in_ok-work-in-Live-clause-shifts
returns-in_ok-work-in-Live-clause-shifts g c =
    let inside = c.context.inside in
    let plan = c.args.lookout.now in
    subst (λ (k : RoomyContext). IfOk c.live_turn.result (λ shifts. shifts ≡ needed_in plan c.args.user.now k.context)) c.context.view_is
    (subst (λ (held : ContextLists). IfOk c.live_turn.result (λ shifts. shifts
    ≡ needed_in plan c.args.user.now (record { sought = inside.sought; enumerated = inside.enumerated; told = inside.told; kept = kept_in held }))) (sym c.in-Live.is) c.live_turn.ensures.shifts)
