use Rattle.acap_task.proofs.Acting.{kept_turn}
use Rattle.acap_task.proofs.running.Running.turn.Goals as goal

pub invariant_of-self : goal.invariant_of-self
invariant_of-self g c = record {
  kept = kept_turn c.turn.result c.args.self.now.kept c.turn.ensures.turned c.turn.ensures.idle;
  room = c.turn.ensures.room;
}
