use Rattle.std.proofs.Common.{◌≡◌, ◌∙◌, ap, []}
use Rattle.std.specs.Option.{unwrap_or}
use Rattle.std.proofs.lemmas.Result.{IfOk-weaker}
use Rattle.acap_search.specs.Views.{View, places_at, spot_in}
use Rattle.acap_search.specs.Walks.{quest_of, view_in}
use Rattle.acap_views.specs.ContextViews.{ContextView, view_before}
use Rattle.acap_views.proofs.dataset_change.DatasetChange.places.Goals as goal

pub returns-in-Some : goal.returns-in-Some
returns-in-Some c =
    let name = c.args.path.now.name in
    let s = c.args.self.now in
    let sees : c.in-Some.surveyor ≡ view_before c.self.inside.scene.now =
    c.self.invariant.sees_before c.in-Some.surveyor c.in-Some.is in
    IfOk-weaker c.places.result _ _ (λ places e.
    e ∙ (ap (λ (view : View). places_at (spot_in view name) (unwrap_or c.scene.inside.sought.now.sort [])) sees
    ∙ (ap (λ (t : ContextView). places_at (spot_in (view_before c.self.inside.scene.now) name) (unwrap_or t.sought.sort [])) c.scene.view_is
    ∙ (ap (λ (t : ContextView). places_at (spot_in (view_before t) name) (unwrap_or t.sought.sort [])) c.self.view_is
    ∙ ap (λ dataset. places_at (spot_in (view_in (quest_of s.old s.realm s.user s.sought) dataset) name) (unwrap_or s.sought.sort [])) c.requires.here)))) c.places.ensures
