use Rattle.std.proofs.Common.{sym, ◌∙◌}
use Rattle.acap_session.specs.Turning.{scene}
use Rattle.acap_session.proofs.Opening.{at_fault, began, began_closed, first_cut}
use Rattle.acap_session.proofs.seat_session.SeatSession.begin.Goals as goal

pub returns-in_err-_turn-clause-machine : goal.returns-in_err-_turn-clause-machine
returns-in_err-_turn-clause-machine g c =
    at_fault c.from_residual.result _ (first_cut c.args.users.now c.args.occasion (scene c.args.state.now.machine c.args.self.now.talk c.args.self.now.out) (scene c.turn.new.state.machine c.turn.new.self.talk c.turn.new.self.out) c.requires c.in_err-_turn.ensures).0

pub returns-then-is_closed-clause-machine : goal.returns-then-is_closed-clause-machine
returns-then-is_closed-clause-machine g c =
    (began_closed c.args.users.now c.args.occasion (scene c.args.state.now.machine c.args.self.now.talk c.args.self.now.out) c.in_ok-_turn._turn (scene c.turn.new.state.machine c.turn.new.self.talk c.turn.new.self.out) c.requires c.in_ok-_turn.ensures (sym c.is_closed.ensures ∙ c.if-is_closed.true)).0

pub returns-then-is_closed-clause-out : goal.returns-then-is_closed-clause-out
returns-then-is_closed-clause-out g c =
    (began_closed c.args.users.now c.args.occasion (scene c.args.state.now.machine c.args.self.now.talk c.args.self.now.out) c.in_ok-_turn._turn (scene c.turn.new.state.machine c.turn.new.self.talk c.turn.new.self.out) c.requires c.in_ok-_turn.ensures (sym c.is_closed.ensures ∙ c.if-is_closed.true)).1

pub returns-clause-ok : goal.returns-clause-ok
returns-clause-ok g c =
    began c.args.users.now c.args.occasion (scene c.args.state.now.machine c.args.self.now.talk c.args.self.now.out) c.in_ok-_turn._turn (scene c.turn.new.state.machine c.turn.new.self.talk c.turn.new.self.out) c.requires c.in_ok-_turn.ensures (sym c.is_closed.ensures ∙ c.if-is_closed.false)
