use Rattle.std.proofs.Common.{◌∙◌, ap, map as each}
use Rattle.std.proofs.lemmas.Result.{IfOk-weaker}
use Rattle.acap_views.specs.PlannedChanges.{reaching}
use Rattle.acap_views.proofs.TouchingLemmas.{in_all}
use Rattle.acap_views.proofs.touching.in_datasets.Goals as goal

pub returns : goal.returns
returns c =
    IfOk-weaker c.touched_among.result _ _ (λ paths among.
    in_all c.args.ahead.now c.ahead.inside.reach.now c.args.sought.now c.args.datasets.now.0 (each (λ d. d.now) c.as_slice.result.now) paths (c.ahead.invariant.reached ∙ ap reaching c.ahead.view_is) c.requires
    (ap (each (λ d. d.now)) c.as_slice.ensures.value ∙ c.in_ok-looked.ensures) among) c.touched_among.ensures
