use Rattle.acap_task.proofs.Octets.{kept_write}
use Rattle.acap_task.proofs.running.Running.write.Goals as goal

pub invariant_of-self : goal.invariant_of-self
invariant_of-self g c = record { kept = kept_write c.write.result c.args.self.now.kept c.write.ensures.written; room = c.write.ensures.room }
