use Rattle.std.proofs.Common.{◌||◌, refl}
use Rattle.acap_session.specs.Turning.{scene}
use Rattle.acap_session.proofs.Performing.{concluded_by, concluded_cut, seats_is}
use Rattle.acap_session.proofs.turns.conclude.Goals as goal

pub returns-in-Ok : goal.returns-in-Ok
returns-in-Ok g c =
    let s = seats_is (c.has_seat.result || c.is_ok.result) c.has_seat.result c.is_ok.result c.args.session.now c.args.outcome refl c.has_seat.ensures c.is_ok.ensures.value in
    concluded_by c.args.occasion (c.has_seat.result || c.is_ok.result) c.args.state.now.machine c.finish.new.state.machine c.args.session.now c.reply.new.self c.args.out.now.items c.reply.new.out.items c.args.outcome c.in-Ok.heard c.finish.result s c.in-Ok.ensures.makes.0 c.in-Ok.ensures.makes.1 c.in-Ok.ensures.makes.2 c.finish.ensures.turn c.finish.ensures.machine

pub returns-in-Err : goal.returns-in-Err
returns-in-Err g c =
    let s = seats_is (c.has_seat.result || c.is_ok.result) c.has_seat.result c.is_ok.result c.args.session.now c.args.outcome refl c.has_seat.ensures c.is_ok.ensures.value in
    concluded_cut c.args.occasion (c.has_seat.result || c.is_ok.result) c.args.outcome (scene c.args.state.now.machine c.args.session.now c.args.out.now.items) (scene c.leave.new.state.machine c.reply.new.self c.reply.new.out.items) s c.in-Err.ensures.makes.0 c.in-Err.ensures.makes.1 c.leave.ensures
