use Rattle.acap_session.specs.Script.{without_nonce}
use Rattle.acap_session.proofs.ScriptActing.{opens_there}
use Rattle.acap_session.proofs.script_acting.open.Goals as goal

pub returns : goal.returns
returns g c = opens_there c.args.world.now c.open.new.self (without_nonce c.args.at.now) c.args.user c.in_ok-open.ensures
