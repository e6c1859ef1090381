use Rattle.acap_task.proofs.Octets.{kept_read}
use Rattle.acap_task.proofs.running.Running.read.Goals as goal

pub invariant_of-self : goal.invariant_of-self
invariant_of-self g c = record { kept = kept_read c.read.result c.args.self.now.kept c.requires.whole c.read.ensures.reads; room = c.read.ensures.room }
