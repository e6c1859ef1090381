use Rattle.std.proofs.Common.{◌∙◌, ap, subst}
use Rattle.std.specs.Result.{IfOk}
use Rattle.acap_inherit.specs.Leaving.{AreTouchedAt}
use Rattle.acap_views.specs.PlannedChanges.{reaching}
use Rattle.acap_views.proofs.touching.touched_in.Goals as goal

pub returns : goal.returns
returns c =
    subst (λ reach. IfOk c.touched_in.result (AreTouchedAt reach.change reach.old c.args.dataset.now))
    (c.ahead.invariant.reached ∙ ap reaching c.ahead.view_is) c.touched_in.ensures
