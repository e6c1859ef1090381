use Rattle.std.proofs.Common.{◌≡◌, ◌-◌, sym, subst, ◌∙◌, arith, length, true, false}
use Rattle.acap_lexer.specs.Holding.{held_limit}
use Rattle.acap_session.specs.Piping.{IsOut, Says}
use Rattle.acap_dialogue.specs.Talking.{Talking}
use Rattle.acap_session.specs.Turning.{scene}
use Rattle.acap_session.specs.declared.pipe_fault.PipeFault.TheVariants as faults
use Rattle.acap_session.proofs.PipeFaults.{part_cut, push_cut, takes_cut}
use Rattle.acap_session.proofs.Piping.{IsPartly, SettledOut, out_none, parts_out, fed_out, partly_none, fits_room, shrinks, some_octets, none_left}
use Rattle.acap_session.proofs.Writing.{none_taken, taken_then}
use Rattle.acap_session.proofs.pipe.feed.Goals as goal

pub parts-init : goal.parts-init
parts-init g c =
    let s = scene c.args.pipe.now.state.machine c.args.pipe.now.session c.args.pipe.now.out.items in
    record { made = out_none (g.W.Output.contents c.args.writer.now) s.out (λ said. IsPartly c.args.users.now c.args.piece.now c.args.piece.now s (scene s.machine s.talk said)) (partly_none c.args.users.now c.args.piece.now s c.requires); taken = none_taken (g.W.Output.told c.args.writer.now) }

pub parts-smaller : goal.parts-smaller
parts-smaller g c =
    let room = c.parts.invariant.made.is.room (sym c.is_closed.ensures ∙ c.if-not-is_closed.true) in
    shrinks c.parts.rest.now c.split_at.result.1.now c.in_ok-taken.taken (held_limit - length c.parts.pipe.session.held.text) c.split_at.ensures.back c.in_ok-taken.ensures.taken (omega (arith, room.1)) (some_octets c.parts.rest.now c.parts-test.ensures)

pub parts-preserved : goal.parts-preserved
parts-preserved g c =
    let going = sym c.is_closed.ensures ∙ c.if-not-is_closed.true in
    let new = scene c.settle.new.pipe.state.machine c.settle.new.pipe.session c.settle.new.pipe.out.items in
    record {
      made = parts_out c.args.users.now c.args.piece.now c.parts.rest.now c.split_at.result.1.now c.in_ok-taken.taken _ (scene c.parts.pipe.state.machine c.parts.pipe.session c.parts.pipe.out.items) new _ _ _ c.parts.invariant.made
          (fits_room c.parts.rest.now c.in_ok-taken.taken c.parts.pipe.session going c.parts.invariant.made.is.room c.in_ok-taken.ensures.taken)
          c.split_at.ensures.back
          (subst (λ (t : Talking). SettledOut c.args.users.now (scene c.parts.pipe.state.machine t c.parts.pipe.out.items) (g.W.Output.contents c.parts.writer) (g.W.Output.contents c.settle.new.writer) new) c.in_ok-taken.ensures.held c.in_ok-settle.ensures.made);
      taken = taken_then _ _ _ c.parts.invariant.taken c.in_ok-settle.ensures.writes;
    }

pub returns-after-parts-clause-made : goal.returns-after-parts-clause-made
returns-after-parts-clause-made g c =
    fed_out c.args.users.now c.args.piece.now c.parts.rest.now _ (scene c.parts.pipe.state.machine c.parts.pipe.session c.parts.pipe.out.items) _ _ c.parts.invariant.made (λ o. none_left c.parts.rest.now c.parts-test.ensures)

pub returns-else-not-is_closed-clause-made : goal.returns-else-not-is_closed-clause-made
returns-else-not-is_closed-clause-made g c =
    fed_out c.args.users.now c.args.piece.now c.parts.rest.now _ (scene c.parts.pipe.state.machine c.parts.pipe.session c.parts.pipe.out.items) _ _ c.parts.invariant.made (λ o. absurd (let both : true ≡ false = c.if-not-is_closed.ensures ∙ o in cc))

pub returns-in_err-settle-clause-made : goal.returns-in_err-settle-clause-made
returns-in_err-settle-clause-made g c =
    let going = sym c.is_closed.ensures ∙ c.if-not-is_closed.true in
    takes_cut c.args.users.now c.args.piece.now (g.W.Output.contents) _ _ c.args.pipe.now c.settle.new.pipe c.in_err-settle.field-0.0 c.from_residual-in_err-settle.result c.from_residual-in_err-settle.ensures.0 c.from_residual-in_err-settle.ensures.1 (part_cut c.in_err-settle.field-0.0 c.args.users.now c.args.piece.now c.parts.rest.now c.split_at.result.1.now c.settle.new.pipe.out.items c.in_ok-taken.taken _ (scene c.parts.pipe.state.machine c.parts.pipe.session c.parts.pipe.out.items) _ _ _ c.parts.invariant.made
    (fits_room c.parts.rest.now c.in_ok-taken.taken c.parts.pipe.session going c.parts.invariant.made.is.room c.in_ok-taken.ensures.taken)
    c.split_at.ensures.back
    (subst (λ (t : Talking). IsOut (g.W.Output.contents c.parts.writer) (g.W.Output.contents c.settle.new.writer) c.settle.new.pipe.out.items (Says c.in_err-settle.field-0.0 c.args.users.now (scene c.parts.pipe.state.machine t c.parts.pipe.out.items))) c.in_ok-taken.ensures.held c.in_err-settle.ensures.made))

pub returns-in_err-taken-clause-made : goal.returns-in_err-taken-clause-made
returns-in_err-taken-clause-made g c =
    takes_cut c.args.users.now c.args.piece.now (g.W.Output.contents) _ _ c.args.pipe.now (record { state = c.parts.pipe.state; session = c.push.new.self; out = c.parts.pipe.out }) faults.Memory c.from_residual.result c.from_residual.ensures.0 c.from_residual.ensures.1 (push_cut c.args.users.now c.args.piece.now c.parts.rest.now _ (scene c.parts.pipe.state.machine c.parts.pipe.session c.parts.pipe.out.items) _ _ c.parts.invariant.made)
