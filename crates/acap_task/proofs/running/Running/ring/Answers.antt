use Rattle.acap_task.proofs.Acting.{kept_ring}
use Rattle.acap_task.proofs.running.Running.ring.Goals as goal

pub invariant_of-self : goal.invariant_of-self
invariant_of-self g c = record { kept = kept_ring c.ring.result c.args.self.now.kept c.requires.whole c.ring.ensures.bell c.ring.ensures.rings; room = c.ring.ensures.room }
