use Rattle.std.proofs.Common.{false, IfOk, Ok, sym, subst}
use Rattle.acap_examples.proofs.Unheard.{opened, pushed}
use Rattle.acap_examples.proofs.following.follow.Goals as goal
use Rattle.acap_examples.specs.Followed.{HasGone}
use Rattle.acap_examples.specs.Stories.{action_of}
use Rattle.acap_session.specs.Live.{step_on}
use Rattle.acap_session.specs.World.{Feeds}

pub returns-in_ok-open-in-Open : goal.returns-in_ok-open-in-Open
returns-in_ok-open-in-Open g c =
    subst (λ d. HasGone c.args.seat c.args.name.now (step_on c.args.step.occasion (action_of d)) false c.args.world.now c.args.held c.open.new.self c.args.held) (sym c.in-Open.is)
    (opened c.args.seat c.args.name.now c.args.step.occasion c.in-Open.user c.args.world.now c.open.new.self c.args.held c.in_ok-open-in-Open.ensures c.form_law.ensures)

pub returns-in_ok-piece-in-Piece : goal.returns-in_ok-piece-in-Piece
returns-in_ok-piece-in-Piece g c =
    subst (λ d. HasGone c.args.seat c.args.name.now (step_on c.args.step.occasion (action_of d)) false c.args.world.now c.args.held c.piece.new.self c.args.held) (sym c.in-Piece.is)
    (pushed c.args.seat c.args.name.now c.args.step.occasion c.in-Piece.octets c.in_ok-piece-in-Piece.field-0 c.args.world.now c.piece.new.self c.args.held
    (subst (λ octets. Feeds c.args.step.occasion.seat octets c.args.world.now c.piece.new.self (Ok c.in_ok-piece-in-Piece.field-0)) c.as_slice.ensures c.in_ok-piece-in-Piece.ensures))

pub returns-in-Turn : goal.returns-in-Turn
returns-in-Turn g c =
    subst (λ d. IfOk c.turn.result (λ gone. HasGone c.args.seat c.args.name.now (step_on c.args.step.occasion (action_of d)) gone.0 c.args.world.now c.args.held c.turn.new.world gone.1)) (sym c.in-Turn.is) c.turn.ensures
