use Rattle.std.proofs.Common.{◌++◌, length}
use Rattle.acap_session.specs.ScriptTaking.{IsReached}
use Rattle.acap_session.specs.Streams.{HasTaken, IfTold}
use Rattle.acap_session.proofs.ScriptRunning.{IsRunning}
use Rattle.acap_session.proofs.script_run.run_lines.Given as goal

abbrev pub invariant-lines : goal.invariant-lines
invariant-lines g l = record {
  ran : IsRunning (l.fn.progress.held.items ++ l.piece) l.piece l.progress.held.items l.rest l.fn.progress.number l.progress.number l.fn.progress.script l.progress.script (g.W.Output.contents l.fn.writer) (g.W.Output.contents l.writer);
  taken : IfTold HasTaken (g.W.Output.told l.fn.writer) (g.W.Output.told l.writer);
  reached : IsReached l.progress.script;
}

abbrev pub decreases-lines : goal.decreases-lines
decreases-lines g l = length l.rest
