use Rattle.std.proofs.Common.{◌+◌, ◌<◌, length, refl, sym, arith}
use Rattle.acap_session.specs.Piping.{scene_of}
use Rattle.acap_session.proofs.PipeFaults.{answer_cut, greets_by, later_reads, unbegun}
use Rattle.acap_session.proofs.Piping.{has_read, has_closed, at_end, at_fault, at_bound, first_turn, starts, starts_with_room}
use Rattle.acap_session.proofs.Reading.{bound_told, fault_told, more_counted, none_counted, none_failed}
use Rattle.acap_session.proofs.Writing.{taken_then}
use Rattle.acap_session.proofs.pipe.serve.Goals as goal

pub reads-init : goal.reads-init
reads-init g c =
    let new = scene_of c.enter.new.pipe in
    let k = first_turn c.requires.begun.user c.args.users.now (scene_of c.args.pipe.now) new c.requires.nobody c.requires.begun.is c.in_ok-enter.ensures in
    record {
      so_far = λ user e. let k = first_turn user c.args.users.now (scene_of c.args.pipe.now) new c.requires.nobody e c.in_ok-enter.ensures in
          starts user (g.R.Input.remaining c.args.reader.now) (g.W.Output.contents c.args.writer.now) (g.W.Output.contents c.send.new.writer) k.came c.enter.new.pipe.state.machine c.enter.new.pipe.session c.enter.new.pipe.out.items k.made k.going c.in_ok-send.ensures.sent;
      room = starts_with_room c.requires.begun.user k.came new k.made;
      going = k.going;
      sent = c.in_ok-send.ensures.empty;
      taken = c.in_ok-send.ensures.writes;
      told = none_counted (g.R.Input.told c.args.reader.now);
    }

pub returns-in_err-enter-clause-all : goal.returns-in_err-enter-clause-all
returns-in_err-enter-clause-all g c = λ user e. unbegun user _ _ c.from_residual.result c.from_residual.ensures.0 c.from_residual.ensures.1

pub returns-in_err-send-clause-all : goal.returns-in_err-send-clause-all
returns-in_err-send-clause-all g c = λ user e.
    let new = scene_of c.enter.new.pipe in
    let k = first_turn user c.args.users.now (scene_of c.args.pipe.now) new c.requires.nobody e c.in_ok-enter.ensures in
    greets_by user _ _ _ new _ c.from_residual-in_err-send.result c.from_residual-in_err-send.ensures.0 c.from_residual-in_err-send.ensures.1 c.in_err-send.ensures.fault k c.in_err-send.ensures.front

pub returns-in_default-clause-all : goal.returns-in_default-clause-all
returns-in_default-clause-all g c = λ user e. at_fault user _ _ _ _ _ _ _ c.in_default.ensures.bytes (c.reads.invariant.so_far user e)

pub returns-in_default-clause-reads : goal.returns-in_default-clause-reads
returns-in_default-clause-reads g c = fault_told _ _ _ c.reads.time (omega (arith, c.reads-test.true)) c.reads.invariant.told c.in_default.ensures.told

pub returns-then-count-eq0-clause-all : goal.returns-then-count-eq0-clause-all
returns-then-count-eq0-clause-all g c =
    let read = rw c.if-count-eq0.true at c.in-Ok.ensures.bytes in
    let some : 0 < length c.read_front.new.buf = omega arith in
    λ user e. at_end user _ _ _ _ _ _ _ read.0 (read.1 refl some) (c.reads.invariant.so_far user e)

pub returns-then-count-eq0-clause-reads : goal.returns-then-count-eq0-clause-reads
returns-then-count-eq0-clause-reads g c = none_failed _ _ (c.reads.time + 1) (omega (arith, c.reads-test.true)) (more_counted _ _ _ c.reads.time c.reads.invariant.told c.in-Ok.ensures.told)

pub answer-requires-clause-room : goal.answer-requires-clause-room
answer-requires-clause-room g c = c.reads.invariant.room

pub answer-requires-clause-sent : goal.answer-requires-clause-sent
answer-requires-clause-sent g c = c.reads.invariant.sent

pub returns-in_err-answer-clause-all : goal.returns-in_err-answer-clause-all
returns-in_err-answer-clause-all g c =
    let a = rw c.requires.nobody at c.in_err-answer.ensures.made in
    λ user e. answer_cut user _ _ _ _ _ _ _ _ _ _ c.from_residual-in_err-answer.result c.from_residual-in_err-answer.ensures.0 c.from_residual-in_err-answer.ensures.1 c.in-Ok.ensures.bytes.0 a (c.reads.invariant.so_far user e)

pub returns-in_err-answer-clause-reads : goal.returns-in_err-answer-clause-reads
returns-in_err-answer-clause-reads g c =
    later_reads _ _ _ c.from_residual-in_err-answer.result c.from_residual-in_err-answer.ensures.0 c.from_residual-in_err-answer.ensures.1 c.in_err-answer.ensures.fault (none_failed _ _ (c.reads.time + 1) (omega (arith, c.reads-test.true)) (more_counted _ _ _ c.reads.time c.reads.invariant.told c.in-Ok.ensures.told))

pub returns-then-is_closed-clause-all : goal.returns-then-is_closed-clause-all
returns-then-is_closed-clause-all g c =
    let a = rw c.requires.nobody at c.in_ok-answer.ensures.made in
    λ user e. has_closed user _ _ _ _ _ _ _ a.said _ _ _ _ c.in-Ok.ensures.bytes.0 a.heard (sym c.if-is_closed.ensures) a.sent (c.reads.invariant.so_far user e)

pub returns-then-is_closed-clause-reads : goal.returns-then-is_closed-clause-reads
returns-then-is_closed-clause-reads g c = none_failed _ _ (c.reads.time + 1) (omega (arith, c.reads-test.true)) (more_counted _ _ _ c.reads.time c.reads.invariant.told c.in-Ok.ensures.told)

pub reads-preserved : goal.reads-preserved
reads-preserved g c =
    let a = rw c.requires.nobody at c.in_ok-answer.ensures.made in
    record {
      so_far = λ user e. has_read user _ _ _ _ _ _ _ a.said _ _ _ _ c.in-Ok.ensures.bytes.0 a.heard (sym c.if-is_closed.ensures) a.sent (c.reads.invariant.so_far user e);
      room = a.heard.room;
      going = sym c.if-is_closed.ensures;
      sent = c.in_ok-answer.ensures.empty;
      taken = taken_then _ _ _ c.reads.invariant.taken c.in_ok-answer.ensures.writes;
      told = more_counted _ _ _ c.reads.time c.reads.invariant.told c.in-Ok.ensures.told;
    }

pub returns-clause-all : goal.returns-clause-all
returns-clause-all g c = λ user e. at_bound user _ _ _ _ _ _ (c.reads.invariant.so_far user e)

pub returns-clause-reads : goal.returns-clause-reads
returns-clause-reads g c = bound_told _ _ c.reads.time (omega (arith, c.reads-test.false, c.reads.auto.time-end)) c.reads.invariant.told
