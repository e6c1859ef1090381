use Rattle.std.proofs.Common.{◌≡◌, ℕ, List, [], false}
use Rattle.acap_session.specs.Piping.{HasRoom, IsSoFar, begins, scene_of}
use Rattle.acap_session.specs.Streams.{HasTaken, IfTold}
use Rattle.acap_dialogue.specs.Session.{is_closed}
use Rattle.acap_session.proofs.Reading.{HasCounted}
use Rattle.acap_session.proofs.pipe.serve.Given as goal

abbrev pub invariant-reads : goal.invariant-reads
invariant-reads g l = record {
  so_far : (user : List ℕ) → scene_of l.fn.pipe ≡ begins user → IsSoFar user (g.R.Input.remaining l.fn.reader) (g.R.Input.remaining l.reader) (g.W.Output.contents l.fn.writer) (g.W.Output.contents l.writer) l.pipe.state.machine l.pipe.session;
  room : HasRoom l.pipe.session;
  going : is_closed l.pipe.session.stage ≡ false;
  sent : l.pipe.out.items ≡ [];
  taken : IfTold HasTaken (g.W.Output.told l.fn.writer) (g.W.Output.told l.writer);
  told : HasCounted (g.R.Input.told l.fn.reader) (g.R.Input.told l.reader) l.time;
}
