use Rattle.std.proofs.Common.{ap, ◌∙◌}
use Rattle.futures.specs.declared.task.Poll.TheVariants.{Ready}
use Rattle.acap_task.proofs.Rounding.{rung_done}
use Rattle.acap_task.proofs.running.Running.listen.Goals as goal

pub returns-in-Ready-Rung-clause-comes : goal.returns-in-Ready-Rung-clause-comes
returns-in-Ready-Rung-clause-comes g c =
    rung_done _ _ _ _ _ _ c.ring.result (c.in-Ready-Rung.is ∙ ap Ready c.in-Ready-Rung.field-0-is) c.ring.ensures.rings
