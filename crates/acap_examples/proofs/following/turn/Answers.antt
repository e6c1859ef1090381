use Rattle.std.proofs.Common.{Option, sym, subst, ◌∙◌}
use Rattle.acap_commands.specs.declared.event.Event.{Event}
use Rattle.acap_commands.specs.declared.said.Said.{Said}
use Rattle.acap_examples.proofs.Stepping.{turned}
use Rattle.acap_examples.proofs.following.turn.Goals as goal
use Rattle.acap_session.specs.Live.{IsToldIn, step_on}
use Rattle.acap_session.specs.World as world

pub returns-in_ok-after-in-Some : goal.returns-in_ok-after-in-Some
returns-in_ok-after-in-Some g c =
    let made = c.in_ok-after-in-Some.ensures in
    let done = subst (λ (told : Option (Event × Said)). IsToldIn (step_on c.args.occasion world.Turn) c.args.world.now told c.report_turn.new.self) c.in-Some.is c.in_ok-told.ensures.1 in
    turned c.args.seat c.args.name.now c.args.occasion c.in-Some.event c.in-Some.said c.updates-tells.result c.args.world.now c.report_turn.new.self c.args.held c.in_ok-after-in-Some.after done
    (sym c.eq-is_own.ensures ∙ c.if-not-is_own.false) made.held made.whole c.updates-tells.ensures
