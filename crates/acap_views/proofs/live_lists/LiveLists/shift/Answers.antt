use Rattle.std.proofs.Common.{sym, ◌∙◌, ap}
use Rattle.acap_moves.specs.Moves.{undone}
use Rattle.acap_views.specs.EntryUpdates.{undo_by}
use Rattle.acap_views.specs.Undoing.{shown_in}
use Rattle.acap_views.proofs.UpdateLemmas.{undone_is}
use Rattle.acap_views.proofs.live_lists.LiveLists.shift.Goals as goal

pub returns-clause-shown : goal.returns-clause-shown
returns-clause-shown c =
    let old = c.args.shift.old in
    let come = c.args.shift.come in
    c.log.ensures.list c.swap-undone.new.hits.0
    ∙ (ap (λ u. shown_in c.self.inside.shown (undone u c.swap-undone.new.hits.0)) c.swap-undone.ensures.undone
    ∙ (ap (λ hits. shown_in c.self.inside.shown (undone (undo_by old come c.self.inside.hits.0) hits)) c.swap-undone.ensures.list
    ∙ (ap (shown_in c.self.inside.shown) (undone_is old come c.self.inside.hits.0 c.ascends.ensures) ∙ ap (λ w. w.shown) c.self.view_is)))

-- where nothing has moved the list is as it was
pub returns-then-is_idle-clause-shown : goal.returns-then-is_idle-clause-shown
returns-then-is_idle-clause-shown c =
    let old = c.args.shift.old in
    let come = c.args.shift.come in
    let hits = c.self.inside.hits.0 in
    ap (shown_in c.self.inside.shown)
    (sym (c.is_idle.ensures c.if-is_idle.true)
    ∙ (ap (λ u. undone u c.swap-undone.new.hits.0) c.swap-undone.ensures.undone
    ∙ (ap (λ now. undone (undo_by old come hits) now) c.swap-undone.ensures.list ∙ undone_is old come hits c.ascends.ensures)))
    ∙ ap (λ w. w.shown) c.self.view_is
