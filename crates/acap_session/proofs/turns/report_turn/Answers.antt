use Rattle.std.proofs.Common.{ap, ◌∙◌}
use Rattle.acap_session.specs.Turning.{scene, left_at}
use Rattle.acap_session.proofs.Performing.{awaits_after, said_turn, told_turn, not_reported, match_then}
use Rattle.acap_session.proofs.turns.report_turn.Goals as goal

pub perform_reported-requires : goal.perform_reported-requires
perform_reported-requires g c = awaits_after c.args.users.now c.args.occasion.nonce c.args.occasion.clock c.args.session.now c.hear.new.self c.in-Ok.heard c.in-Asks.event c.in-Ok.ensures.0 c.in-Asks.is c.in-Ok.ensures.1

pub returns-in_default-heard : goal.returns-in_default-heard
returns-in_default-heard g c =
    let s = scene c.args.state.now.machine c.args.session.now c.args.out.now.items in
    (said_turn c.args.users.now c.args.occasion s c.hear.new.self c.finish-turn.new.state.machine c.hear.new.out.items c.in-Ok.heard c.finish-turn.result c.in_default-heard.not-Asks c.in-Ok.ensures.0 c.in-Ok.ensures.1 c.in-Ok.ensures.2 c.finish-turn.ensures.turn (c.finish-turn.ensures.machine ∙ ap (λ b. left_at c.in-Ok.heard b c.args.occasion s.machine) c.has_seat-has_seat.ensures)).1

pub returns-in-Asks : goal.returns-in-Asks
returns-in-Asks g c =
    let s = scene c.args.state.now.machine c.args.session.now c.args.out.now.items in
    match_then c.perform_reported.result _ _ _ _
    (λ told k. told_turn c.args.users.now c.args.occasion s c.hear.new.self c.hear.new.out.items c.in-Ok.heard c.in-Asks.event told _ c.in-Asks.is c.in-Ok.ensures.0 c.in-Ok.ensures.1 c.in-Ok.ensures.2 k)
    (λ memory k. not_reported c.args.users.now c.args.occasion s c.hear.new.self c.hear.new.out.items c.in-Ok.heard c.in-Asks.event _ c.in-Asks.is c.in-Ok.ensures.0 c.in-Ok.ensures.1 c.in-Ok.ensures.2 k)
    c.perform_reported.ensures
