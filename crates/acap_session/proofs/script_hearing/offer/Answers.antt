use Rattle.acap_session.proofs.ScriptHearing.{offered, takes_some}
use Rattle.acap_session.proofs.script_hearing.offer.Goals as goal

pub returns-clause-offered : goal.returns-clause-offered
returns-clause-offered g c = offered c.args.at.now c.args.octets.now c.in_ok-taken.taken c.args.world.now c.piece.new.self c.settle.new.world c.in_ok-taken.ensures c.in_ok-settle.ensures

pub returns-clause-some : goal.returns-clause-some
returns-clause-some g c = takes_some c.args.at.now.seat c.args.octets.now c.in_ok-taken.taken c.args.world.now c.piece.new.self c.in_ok-taken.ensures
