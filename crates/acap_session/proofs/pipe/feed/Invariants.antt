use Rattle.std.proofs.Common.{length}
use Rattle.acap_session.specs.Streams.{HasTaken, IfTold}
use Rattle.acap_session.specs.Turning.{scene}
use Rattle.acap_session.proofs.Piping.{PartsOut}
use Rattle.acap_session.proofs.pipe.feed.Given as goal

abbrev pub invariant-parts : goal.invariant-parts
invariant-parts g l = record {
  made : PartsOut l.users l.piece l.rest (scene l.fn.pipe.state.machine l.fn.pipe.session l.fn.pipe.out.items) (g.W.Output.contents l.fn.writer) (g.W.Output.contents l.writer) (scene l.pipe.state.machine l.pipe.session l.pipe.out.items);
  taken : IfTold HasTaken (g.W.Output.told l.fn.writer) (g.W.Output.told l.writer);
}

abbrev pub decreases-parts : goal.decreases-parts
decreases-parts g l = length l.rest
