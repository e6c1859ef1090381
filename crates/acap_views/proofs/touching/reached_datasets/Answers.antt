use Rattle.std.proofs.Common.{◌∙◌, ap, subst}
use Rattle.std.specs.Result.{IfOk}
use Rattle.acap_inherit.specs.Reaching.{AreAllReached}
use Rattle.acap_views.specs.PlannedChanges.{reaching}
use Rattle.acap_views.proofs.touching.reached_datasets.Goals as goal

pub returns : goal.returns
returns c = subst (λ reach. IfOk c.datasets.result (λ made. AreAllReached reach made.0)) (c.ahead.invariant.reached ∙ ap reaching c.ahead.view_is) c.datasets.ensures
