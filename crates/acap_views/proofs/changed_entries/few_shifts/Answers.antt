use Rattle.std.proofs.Common.{arith, length, ap, ◌∙◌}
use Rattle.std.proofs.lemmas.Result.{IfOk-weaker}
use Rattle.acap_views.specs.ContextViews.{shift_in}
use Rattle.acap_views.proofs.LoopUpdateLemmas.{all_needed}
use Rattle.acap_views.proofs.changed_entries.few_shifts.Goals as goal

pub returns-then-len-clause-shifts : goal.returns-then-len-clause-shifts
returns-then-len-clause-shifts g c =
    let waiting = ap (λ w. length w.pending) c.watch.view_is in
    IfOk-weaker c.all_shifts.result _ _ (λ shifts e.
    e ∙ all_needed (shift_in c.args.field.now) c.args.watch.now c.args.paths
    (omega (arith, c.if-len.true, c.len.ensures, c.len-2.ensures.count, waiting)) (omega (arith, c.len-2.ensures.most, c.len-2.ensures.count, waiting)))
    c.all_shifts.ensures.shifts
