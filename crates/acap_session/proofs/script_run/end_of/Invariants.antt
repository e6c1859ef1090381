use Rattle.std.proofs.Common.{take}
use Rattle.acap_session.specs.ScriptRun.{IsLine}
use Rattle.acap_session.proofs.script_run.end_of.Given as goal

abbrev pub invariant-loop-place : goal.invariant-loop-place
invariant-loop-place l = IsLine (take l.place l.text)
