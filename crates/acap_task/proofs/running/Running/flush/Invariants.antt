use Rattle.std.proofs.Common.{◌≡◌, length}
use Rattle.futures.specs.Task.{Keeps}
use Rattle.acap_task.specs.Progress.{progress}
use Rattle.acap_task.specs.Waiting.{Flushes}
use Rattle.acap_task.proofs.running.Running.flush.Given as goal

abbrev pub invariant-loop-self : goal.invariant-loop-self
invariant-loop-self g l = record {
  kept : Keeps l.fn.cx l.cx;
  parties : l.self.parties ≡ l.fn.self.parties;
  seat : g.D.Desk.seat l.self.desk ≡ g.D.Desk.seat l.fn.self.desk;
  bell : l.self.bell ≡ l.fn.self.bell;
  flushed : Flushes (g.W.Wire.told l.fn.self.wire) (g.W.Wire.told l.self.wire) (progress l.fn.self.progress) (progress l.self.progress);
  waits : (g.W.Wire.told l.self.wire).write_waits ≡ (g.W.Wire.told l.fn.self.wire).write_waits;
}

abbrev pub decreases-loop-self : goal.decreases-loop-self
decreases-loop-self g l = length l.self.progress.unsent
