use Rattle.acap_session.proofs.ScriptRunning.{says}
use Rattle.acap_session.proofs.script_doing.speak_at.Goals as goal

pub returns : goal.returns
returns g c = says c.args.line c.args.at.now c.args.world.now c.do_at.new.world c.take_output-said.new.self c.take_output-said.result.items c.as_slice.result.now c.in_ok-out.out.items c.in_ok-do_at.ensures c.take_output-said.ensures.given c.take_output-said.ensures.left c.as_slice.ensures.value c.in_ok-out.ensures
