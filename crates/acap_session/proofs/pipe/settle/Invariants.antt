use Rattle.acap_session.specs.Piping.{Goes}
use Rattle.acap_session.specs.Streams.{HasTaken, IfTold}
use Rattle.acap_session.specs.Turning.{scene}
use Rattle.acap_session.proofs.Piping.{TurnsOut}
use Rattle.acap_session.proofs.Turning.{turns_left}
use Rattle.acap_session.proofs.pipe.settle.Given as goal

abbrev pub invariant-turns : goal.invariant-turns
invariant-turns g l = record {
  made : TurnsOut l.users (scene l.initial.pipe.state.machine l.initial.pipe.session l.initial.pipe.out.items) (g.W.Output.contents l.initial.writer) (g.W.Output.contents l.writer) (scene l.pipe.state.machine l.pipe.session l.pipe.out.items);
  goes : Goes l.pipe.session;
  taken : IfTold HasTaken (g.W.Output.told l.initial.writer) (g.W.Output.told l.writer);
}

abbrev pub decreases-turns : goal.decreases-turns
decreases-turns g l = turns_left l.pipe.session
