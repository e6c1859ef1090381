use Rattle.acap_task.proofs.Ending.{ends_first}
use Rattle.acap_task.proofs.pass_desk.PassDesk.new.Goals as goal

pub invariant_of-result : goal.invariant_of-result
invariant_of-result g c = record { ends = ends_first _ _ c.new.ensures.items }
