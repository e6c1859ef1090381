use Rattle.std.proofs.Common.{subst, sym}
use Rattle.acap_session.specs.Script.{Listens}
use Rattle.acap_session.proofs.ScriptRunning.{spoken}
use Rattle.acap_session.proofs.ScriptTaking.{listens}
use Rattle.acap_session.proofs.script_doing.speak.Goals as goal

pub speak_at-said-requires : goal.speak_at-said-requires
speak_at-said-requires g c = subst (Listens c.args.seat) (sym c.take_world-world.ensures) (listens c.args.seat c.args.script.now c.requires)

pub returns : goal.returns
returns g c = spoken c.args.line c.args.seat c.args.script.now c.take_world-world.result c.speak_at-said.new.world c.speak_at-said.result c.take_world-world.ensures c.speak_at-said.ensures
