use Rattle.std.proofs.Common.{subst}
use Rattle.std.specs.Option.{ForSome}
use Rattle.acap_entries.specs.Store.{Stored}
use Rattle.acap_search.specs.RecordCaches.{IsPlain}
use Rattle.acap_views.specs.PlannedChanges.{Planned, store_ahead}
use Rattle.acap_views.specs.ContextViews.{own_view}
use Rattle.acap_views.proofs.share_rights.shares_of.Goals as goal

pub returns-clause-after : goal.returns-clause-after
returns-clause-after c =
    let after = c.in_ok-after.after in
    let user = c.args.user.now in
    let sought = c.args.sought.now in
    subst (λ (p : Planned). ForSome after (IsPlain (own_view (store_ahead p).records p.realm user sought))) c.ahead.view_is
    (subst (λ (records : Stored). ForSome after (IsPlain (own_view records c.ahead.inside.realm.now user sought))) c.ahead.invariant.ahead
    c.in_ok-after.ensures)
