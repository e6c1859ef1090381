use Rattle.std.proofs.Common.{◌≤◌, ◌*◌}
use Rattle.acap_session.specs.Streams.{HasTaken, IfTold}
use Rattle.acap_session.proofs.Reading.{HasCounted}
use Rattle.acap_session.proofs.ScriptRunning.{IsReading}
use Rattle.acap_session.proofs.script_run.run_all.Given as goal

abbrev pub invariant-reads : goal.invariant-reads
invariant-reads g l = record {
  so_far : IsReading (g.R.Input.remaining l.fn.reader) (g.R.Input.remaining l.reader) (g.W.Output.contents l.fn.writer) (g.W.Output.contents l.writer) l.progress.held.items l.progress.number l.progress.script;
  bound : l.progress.number ≤ 4096 * l.time;
  told : HasCounted (g.R.Input.told l.fn.reader) (g.R.Input.told l.reader) l.time;
  taken : IfTold HasTaken (g.W.Output.told l.fn.writer) (g.W.Output.told l.writer);
}
