use Rattle.acap_task.proofs.Octets.{kept_leave}
use Rattle.acap_task.proofs.running.Running.leave.Goals as goal

pub invariant_of-self : goal.invariant_of-self
invariant_of-self g c = record { kept = kept_leave c.args.self.now.kept c.leave_at_end.ensures.left; room = c.leave_at_end.ensures.room }
