use Rattle.acap_session.specs.Piping.{always}
use Rattle.acap_session.specs.Turning.{scene}
use Rattle.acap_session.specs.declared.pipe_fault.PipeFault.TheVariants as faults
use Rattle.acap_session.proofs.PipeFaults.{ease_cut, settles_cut, turn_cut}
use Rattle.acap_session.proofs.Piping.{SomeTurns, no_turns, out_none, turned_out, settled_out, closed_out}
use Rattle.acap_session.proofs.Turning.{fewer, goes_on}
use Rattle.acap_session.proofs.Writing.{none_taken, taken_then}
use Rattle.acap_session.proofs.pipe.settle.Goals as goal

pub turns-init : goal.turns-init
turns-init g c =
    let s = scene c.args.pipe.now.state.machine c.args.pipe.now.session c.args.pipe.now.out.items in
    record { made = out_none (g.W.Output.contents c.args.writer.now) s.out (λ said. SomeTurns c.args.users.now s (scene s.machine s.talk said)) (no_turns c.args.users.now s); goes = c.requires; taken = none_taken (g.W.Output.told c.args.writer.now) }

pub turns-smaller : goal.turns-smaller
turns-smaller g c =
    fewer c.args.users.now always (scene c.turns.pipe.state.machine c.turns.pipe.session c.turns.pipe.out.items) (scene c.turn.new.state.machine c.turn.new.session c.turn.new.out.items) (rw (c.in-Said.is, c.always.ensures) at c.in_ok-turn.ensures) c.turns.invariant.goes

pub turns-preserved : goal.turns-preserved
turns-preserved g c =
    let new = scene c.turn.new.state.machine c.turn.new.session c.turn.new.out.items in
    let k = rw (c.in-Said.is, c.always.ensures) at c.in_ok-turn.ensures in
    record {
      made = turned_out c.args.users.now _ (scene c.turns.pipe.state.machine c.turns.pipe.session c.turns.pipe.out.items) new _ _ _ _ c.ease.new.out.items c.turns.invariant.made k c.in_ok-ease-in-Said.ensures.said;
      goes = λ o. goes_on c.args.users.now always _ new k;
      taken = taken_then _ _ _ c.turns.invariant.taken c.in_ok-ease-in-Said.ensures.writes;
    }

pub returns-in-More-clause-made : goal.returns-in-More-clause-made
returns-in-More-clause-made g c =
    settled_out c.args.users.now _ (scene c.turns.pipe.state.machine c.turns.pipe.session c.turns.pipe.out.items) (scene c.turn.new.state.machine c.turn.new.session c.turn.new.out.items) _ _ c.turns.invariant.made c.turns.invariant.goes (rw (c.in-More.is, c.always.ensures) at c.in_ok-turn.ensures)

pub returns-in-Closed-clause-made : goal.returns-in-Closed-clause-made
returns-in-Closed-clause-made g c =
    closed_out c.args.users.now _ (scene c.turns.pipe.state.machine c.turns.pipe.session c.turns.pipe.out.items) (scene c.turn.new.state.machine c.turn.new.session c.turn.new.out.items) _ _ c.turns.invariant.made (rw (c.in-Closed.is, c.always.ensures) at c.in_ok-turn.ensures)

pub returns-in_err-turn-clause-made : goal.returns-in_err-turn-clause-made
returns-in_err-turn-clause-made g c =
    settles_cut c.args.users.now (g.W.Output.contents) _ _ c.args.pipe.now (record { state = c.turn.new.state; session = c.turn.new.session; out = c.turn.new.out }) faults.Memory c.from_residual.result c.from_residual.ensures.0 c.from_residual.ensures.1 (turn_cut c.args.users.now _ (scene c.turns.pipe.state.machine c.turns.pipe.session c.turns.pipe.out.items) _ _ c.turn.new.out.items c.turns.invariant.made c.in_err-turn.ensures.out_is)

pub returns-in_err-ease-in-Said-clause-made : goal.returns-in_err-ease-in-Said-clause-made
returns-in_err-ease-in-Said-clause-made g c =
    let new = scene c.turn.new.state.machine c.turn.new.session c.turn.new.out.items in
    settles_cut c.args.users.now (g.W.Output.contents) _ _ c.args.pipe.now (record { state = c.turn.new.state; session = c.turn.new.session; out = c.ease.new.out }) faults.Write c.from_residual-in_err-ease-in-Said.result c.from_residual-in_err-ease-in-Said.ensures.0 (rw c.in_err-ease-in-Said.ensures.fault at c.from_residual-in_err-ease-in-Said.ensures.1) (ease_cut c.args.users.now _ (scene c.turns.pipe.state.machine c.turns.pipe.session c.turns.pipe.out.items) new _ _ _ c.ease.new.out.items c.turns.invariant.made (rw (c.in-Said.is, c.always.ensures) at c.in_ok-turn.ensures) c.in_err-ease-in-Said.ensures.front c.in_err-ease-in-Said.ensures.empty)
