use Rattle.std.proofs.Common.{◌∙◌, ap}
use Rattle.acap_views.specs.PlannedChanges.{reaching}
use Rattle.acap_views.proofs.TouchingLemmas.{says_touched}
use Rattle.acap_views.proofs.touching.is_touched_in.Goals as goal

pub returns : goal.returns
returns c = says_touched c.args.ahead.now c.ahead.inside.reach.now c.args.dataset.now c.has.result (c.ahead.invariant.reached ∙ ap reaching c.ahead.view_is) c.has.ensures
