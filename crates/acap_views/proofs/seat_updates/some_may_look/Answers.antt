use Rattle.std.proofs.Common.{sym, ◌∙◌, ap, subst}
use Rattle.acap_inherit.specs.Reaching.{TouchesNoOther}
use Rattle.acap_views.specs.PlannedChanges.{reaching}
use Rattle.acap_views.proofs.SilentLemmas.{none_elsewhere}
use Rattle.acap_views.proofs.seat_updates.some_may_look.Goals as goal

pub returns-in-Some : goal.returns-in-Some
returns-in-Some c = λ none.
    none_elsewhere c.args.ahead.now c.in-Some.only.now
    (subst (λ reach. TouchesNoOther reach c.in-Some.only.now) (c.ahead.invariant.reached ∙ ap reaching c.ahead.view_is) c.in-Some.ensures)
    c.args.contexts.now (sym c.any_may_be_in.ensures ∙ none)
