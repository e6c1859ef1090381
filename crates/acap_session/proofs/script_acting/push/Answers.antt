use Rattle.acap_session.proofs.ScriptActing.{pushes}
use Rattle.acap_session.proofs.script_acting.push.Goals as goal

pub returns : goal.returns
returns c = pushes c.args.world.now c.piece.new.self c.args.at.now c.args.octets.now c.in_ok-piece.field-0 c.in_ok-piece.ensures
