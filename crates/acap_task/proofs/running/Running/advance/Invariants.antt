use Rattle.std.proofs.Common.{◌≡◌, ◌+◌, ◌≤◌}
use Rattle.futures.specs.Task.{Keeps}
use Rattle.acap_task.specs.Progress.{done, progress}
use Rattle.acap_task.specs.Waiting.{Later}
use Rattle.acap_task.proofs.running.Running.advance.Given as goal

abbrev pub invariant-loop : goal.invariant-loop
invariant-loop g l = record {
  kept : Keeps l.fn.cx l.cx;
  parties : l.self.parties ≡ l.fn.self.parties;
  seat : g.D.Desk.seat l.self.desk ≡ g.D.Desk.seat l.fn.self.desk;
  later : Later (g.W.Wire.told l.fn.self.wire) (g.W.Wire.told l.self.wire) (g.B.Bell.told l.fn.self.bell) (g.B.Bell.told l.self.bell);
  done : done (progress l.fn.self.progress).steps + l.counter ≤ done (progress l.self.progress).steps;
}
