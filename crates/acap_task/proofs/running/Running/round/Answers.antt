use Rattle.std.proofs.Common.{Ok, ap, subst, ◌<◌, ◌∙◌}
use Rattle.acap_task.specs.Progress.{done}
use Rattle.acap_task.proofs.Rounding.{turn_done, turn_quiet}
use Rattle.acap_task.proofs.running.Running.round.Goals as goal

pub listen-requires-clause-quiet : goal.listen-requires-clause-quiet
listen-requires-clause-quiet g c =
    turn_quiet _ _ _ _ _ _ _ _ c.turn.result (c.in-Ok-false.is ∙ ap Ok c.in-Ok-false.field-0-test)
    (ap (λ p. p.users.now) c.turn.ensures.parties) c.turn.ensures.turned

pub returns-in-Ok-true-clause-comes : goal.returns-in-Ok-true-clause-comes
returns-in-Ok-true-clause-comes g c =
    subst (λ xs. done xs < done c.turn.new.self.progress.steps.items) c.flush.ensures.flushed.steps
    (turn_done _ _ _ _ _ _ _ c.turn.result (c.in-Ok-true.is ∙ ap Ok c.in-Ok-true.field-0-test) c.turn.ensures.turned)
