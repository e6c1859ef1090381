use Rattle.std.proofs.Common.{◌≡◌, List, map as each, refl, ap, subst, ◌∙◌}
use Rattle.std.specs.Result.{IfOk}
use Rattle.acap_entries.specs.Store.{Store}
use Rattle.acap_views.specs.PlannedChanges.{Planned, store_ahead}
use Rattle.acap_views.specs.ContextViews.{ContextView, shift_in}
use Rattle.acap_views.specs.EntryUpdates.{EntryUpdate, due_shifts}
use Rattle.acap_views.proofs.TurnLemmas.{made_live}
use Rattle.acap_views.proofs.seat_updates.looked_turn.Goals as goal

pub returns-clause-shifts : goal.returns-clause-shifts
returns-clause-shifts g c =
    let plan = c.args.lookout.now in
    let user = c.args.user.now in
    let sought = c.args.sought.now in
    let inside = c.ahead.inside in
    let seen : ContextView = record {
      old = inside.tree.now.store.records;
      new = c.of-after.result.records;
      realm = inside.realm.now;
      user = user;
      sought = sought;
    } in
    let old : seen.old ≡ plan.old.records = ap (λ (p : Planned). p.old.records) (c.ahead.view_is ∙ c.lookout.view_is) in
    let new : seen.new ≡ (store_ahead plan).records =
    ap (λ (s : Store). s.records) c.of-after.ensures ∙ (c.lookout.invariant.near ∙ ap (λ (p : Planned). (store_ahead p).records) c.lookout.view_is) in
    let realm : seen.realm ≡ plan.realm = ap (λ (p : Planned). p.realm) (c.ahead.view_is ∙ c.lookout.view_is) in
    subst (λ (ss : List EntryUpdate). IfOk c.shifts_at.result (λ shifts. shifts ≡ due_shifts c.args.watch.now ss))
    (ap (λ (s : ContextView). each (shift_in s) c.args.paths) c.of-field.ensures
    ∙ made_live plan user sought seen c.args.paths old new realm refl refl c.requires.paths)
    c.shifts_at.ensures.shifts
