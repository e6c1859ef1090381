use Rattle.std.proofs.Common.{◌∙◌, ap}
use Rattle.std.proofs.Math.Seq.{map-set_same}
use Rattle.acap_serving.proofs.worker_sessions.WorkerSessions.advance.Goals as goal

pub invariant_of-self : goal.invariant_of-self
invariant_of-self g c = record {
  same =
      map-set_same g.T.Advance.whose c.args.self.now.sessions.items c.args.number c.advance.new.self c.in-Some.session.now
      (c.advance.ensures.same ∙ ap g.T.Advance.whose c.in-Some.ensures.value) ∙ c.args.self.now.same;
}
