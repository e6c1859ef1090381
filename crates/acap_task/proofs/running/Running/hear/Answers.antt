use Rattle.std.proofs.Common.{ap, subst, ◌<◌, ◌∙◌}
use Rattle.futures.specs.declared.task.Poll.TheVariants.{Ready}
use Rattle.acap_task.specs.Progress.{done}
use Rattle.acap_task.proofs.Rounding.{read_done}
use Rattle.acap_task.proofs.running.Running.hear.Goals as goal

pub returns-in-Ready-Ok-2-clause-comes : goal.returns-in-Ready-Ok-2-clause-comes
returns-in-Ready-Ok-2-clause-comes g c =
    subst (λ (x : _). done x.steps.items < done c.read.new.self.progress.steps.items) c.is_readable.ensures.same.2
    (read_done _ _ _ _ c.read.result _ (c.in-Ready-Ok.is ∙ ap Ready c.in-Ready-Ok.field-0-is) c.in-Ready-Ok.field-0-0-test.1 c.if-self.false c.read.ensures.reads)
