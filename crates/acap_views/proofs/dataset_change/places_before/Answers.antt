use Rattle.std.proofs.Common.{◌∙◌, ap, []}
use Rattle.std.specs.Option.{unwrap_or}
use Rattle.std.proofs.lemmas.Result.{IfOk-weaker}
use Rattle.acap_search.specs.Views.{places_at, spot_in}
use Rattle.acap_views.specs.ContextViews.{places_before}
use Rattle.acap_views.proofs.dataset_change.places_before.Goals as goal

pub returns : goal.returns
returns c =
    IfOk-weaker c.places_at.result _ _ (λ places e.
    e ∙ (ap (λ chain. places_at (spot_in (record {
      records = c.scene.inside.before.now.store.records;
      realm = c.scene.inside.realm.now;
      user = c.scene.inside.user.now;
      dataset = c.args.path.now.dataset;
      chain = chain;
    }) c.args.path.now.name) (unwrap_or c.scene.inside.sought.now.sort [])) c.chain_unless.ensures
    ∙ ap (λ s. places_before s c.args.path.now) c.scene.view_is)) c.places_at.ensures
