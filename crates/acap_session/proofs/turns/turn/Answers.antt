use Rattle.std.proofs.Common.{false, ap, ◌∙◌}
use Rattle.acap_dialogue.specs.Session.{session_next}
use Rattle.acap_session.specs.Turning.{scene, left_at}
use Rattle.acap_session.proofs.Performing.{awaits_after, said_turn, asked_turn, cut_turn, match_then}
use Rattle.acap_session.proofs.turns.turn.Goals as goal

pub perform-requires : goal.perform-requires
perform-requires g c = awaits_after c.args.users.now c.args.occasion.nonce c.args.occasion.clock c.args.session.now c.hear.new.self c.in-Ok.heard c.in-Asks.event c.in-Ok.ensures.0 c.in-Asks.is c.in-Ok.ensures.1

pub returns-in_default-heard : goal.returns-in_default-heard
returns-in_default-heard g c =
    let s = scene c.args.state.now.machine c.args.session.now c.args.out.now.items in
    record {
      refused = false;
      is = (said_turn c.args.users.now c.args.occasion s c.hear.new.self c.finish.new.state.machine c.hear.new.out.items c.in-Ok.heard c.finish.result c.in_default-heard.not-Asks c.in-Ok.ensures.0 c.in-Ok.ensures.1 c.in-Ok.ensures.2 c.finish.ensures.turn (c.finish.ensures.machine ∙ ap (λ b. left_at c.in-Ok.heard b c.args.occasion s.machine) c.has_seat-has_seat.ensures)).0;
    }

pub returns-in-Asks : goal.returns-in-Asks
returns-in-Asks g c =
    let s = scene c.args.state.now.machine c.args.session.now c.args.out.now.items in
    match_then c.perform.result _ _ _ _
    (λ came k. record { refused = k.refused; is = k.is ∙ asked_turn c.args.users.now c.args.occasion k.refused s c.hear.new.self c.hear.new.out.items c.in-Ok.heard c.in-Asks.event c.in-Asks.is c.in-Ok.ensures.0 c.in-Ok.ensures.1 c.in-Ok.ensures.2 })
    (λ memory k. cut_turn c.args.occasion s (session_next c.args.users.now c.args.occasion.nonce c.args.occasion.clock c.args.session.now) c.hear.new.self c.hear.new.out.items c.in-Ok.heard c.in-Asks.event _ c.in-Asks.is c.in-Ok.ensures.0 c.in-Ok.ensures.1 c.in-Ok.ensures.2 k)
    c.perform.ensures
