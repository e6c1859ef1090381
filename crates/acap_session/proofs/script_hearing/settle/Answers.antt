use Rattle.acap_session.proofs.ScriptHearing.{settled, settles, settles_fewer}
use Rattle.acap_session.proofs.script_hearing.settle.Goals as goal

pub returns-then-not-branch : goal.returns-then-not-branch
returns-then-not-branch g c = settled c.args.at.now c.in_ok-turn.field-0 c.args.world.now c.loop.world c.turn.new.world c.loop.invariant c.if-not-branch.true c.in_ok-turn.ensures

pub loop-smaller : goal.loop-smaller
loop-smaller g c = settles_fewer c.args.at.now c.in_ok-turn.field-0 c.loop.world c.turn.new.world c.if-not-branch.false c.in_ok-turn.ensures

pub loop-preserved : goal.loop-preserved
loop-preserved g c = settles c.args.at.now c.in_ok-turn.field-0 c.args.world.now c.loop.world c.turn.new.world c.loop.invariant c.if-not-branch.false c.in_ok-turn.ensures
