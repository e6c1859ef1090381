use Rattle.acap_session.specs.Script.{without_nonce}
use Rattle.acap_session.proofs.ScriptActing.{leaves}
use Rattle.acap_session.proofs.script_acting.leave.Goals as goal

pub returns : goal.returns
returns g c = leaves c.args.world.now c.leave.new.self (without_nonce c.args.at.now) c.in_ok-leave.ensures
