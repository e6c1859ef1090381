use Rattle.std.proofs.Common.{◌≡◌, IfOk, subst, ap, ◌∙◌}
use Rattle.acap_search.specs.Views.{match_at, spot_in}
use Rattle.acap_search.proofs.dataset_cursor.DatasetCursor.tell.Goals as goal

pub returns : goal.returns
returns c =
    subst (λ spot. IfOk c.tell_row.result (λ row. row ≡ (match_at c.args.sought.now spot).row))
    (c.near-spot.ensures ∙ ap (λ by. spot_in by c.args.path.now.name) (ap (λ ground. ground.view) c.self.view_is)) c.tell_row.ensures

pub returns-2 : goal.returns-2
returns-2 c =
    subst (λ spot. IfOk c.tell_row-2.result (λ row. row ≡ (match_at c.args.sought.now spot).row))
    (c.far.ensures ∙ ap (λ by. spot_in by c.args.path.now.name) (c.over-nearer.ensures ∙ ap (λ ground. ground.view) c.self.view_is))
    c.tell_row-2.ensures
