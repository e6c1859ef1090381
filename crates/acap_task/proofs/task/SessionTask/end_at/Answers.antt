use Rattle.std.proofs.Common.{ap, sym, ◌∙◌}
use Rattle.acap_task.specs.Kept.{roles_of}
use Rattle.acap_task.proofs.Octets.{over_then}
use Rattle.acap_task.proofs.task.SessionTask.end_at.Goals as goal

pub invariant_of-result : goal.invariant_of-result
invariant_of-result g c = record {
  bounded = c.requires.polls;
  over = over_then (ap roles_of c.leave.ensures.parties)
      (ap (λ x. g.W.Wire.told x) c.leave.ensures.same.0) (ap (λ x. g.B.Bell.told x) c.leave.ensures.same.1)
      c.args.end c.args.polls c.args.self.now.turns c.unwrap-running.result.kept
      (rw (sym c.take.ensures.value ∙ c.unwrap-running.ensures) at c.requires.ends) c.leave.ensures.left;
}
