use Rattle.acap_task.proofs.Ending.{ends_call}
use Rattle.acap_task.proofs.pass_desk.PassDeskDesk.call.Goals as goal

pub invariant_of-self : goal.invariant_of-self
invariant_of-self g c = record { ends = ends_call _ _ _ _ _ _ c.call_with-outcome.result c.args.self.now.ends c.call_with-outcome.ensures.ok c.call_with-outcome.ensures.err }
