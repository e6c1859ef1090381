use Rattle.acap_session.specs.World.{open_at}
use Rattle.acap_session.proofs.ScriptHearing.{SomeTurns, turns_at}
use Rattle.acap_session.proofs.script_hearing.settle.Given as goal

abbrev pub invariant-loop : goal.invariant-loop
invariant-loop g l = SomeTurns l.at l.fn.world l.world

abbrev pub decreases-loop : goal.decreases-loop
decreases-loop g l = turns_at (open_at l.world l.at.seat)
