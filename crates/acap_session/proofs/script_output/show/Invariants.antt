use Rattle.std.proofs.Common.{length}
use Rattle.acap_session.proofs.ScriptOutput.{IsPartly}
use Rattle.acap_session.proofs.script_output.show.Given as goal

abbrev pub invariant-parts : goal.invariant-parts
invariant-parts l = IsPartly l.seat l.said l.rest l.out.items

abbrev pub decreases-parts : goal.decreases-parts
decreases-parts l = length l.rest
