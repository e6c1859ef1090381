use Rattle.std.proofs.Common.{◌+◌, ◌<◌, length, refl, arith, length-take}
use Rattle.acap_session.proofs.Reading.{bound_told, fault_told, more_counted, none_counted, none_failed}
use Rattle.acap_session.proofs.ScriptRunning.{ended_at, last_read, lines_read, none_read, piece_read, pieces_fail}
use Rattle.acap_session.proofs.ScriptTaking.{reached_by}
use Rattle.acap_session.proofs.Writing.{none_taken, taken_then}
use Rattle.acap_session.proofs.script_run.run_all.Goals as goal

pub reads-init : goal.reads-init
reads-init g c =
    let none = c.requires.none_counted in
    record {
      so_far = none_read _ _ c.args.progress.now.held.items c.args.progress.now.number c.args.progress.now.script c.requires.none_held none c.requires.script_is;
      bound = omega (arith, none);
      told = none_counted (g.R.Input.told c.args.reader.now);
      taken = none_taken (g.W.Output.told c.args.writer.now);
    }

pub returns-then-count-eq0-clause-runs : goal.returns-then-count-eq0-clause-runs
returns-then-count-eq0-clause-runs g c =
    let read = rw c.if-count-eq0.true at c.in-Ok.ensures.bytes in
    let some : 0 < length c.read_front.new.buf = omega arith in
    ended_at _ _ _ _ _ _ c.reads.progress.held.items c.reads.progress.number c.reads.progress.script c.run_last.new.script c.run_last.result c.reads.invariant.so_far read.0 (read.1 refl some) (rw c.as_slice.ensures.value at c.run_last.ensures.ran)

pub returns-in_err-run_lines-clause-runs : goal.returns-in_err-run_lines-clause-runs
returns-in_err-run_lines-clause-runs g c =
    pieces_fail _ _ _ _ _ _ c.reads.progress.held.items _ c.run_lines.new.progress.held.items c.reads.progress.number c.run_lines.new.progress.number c.reads.progress.script c.run_lines.new.progress.script _ c.from_residual.result c.from_residual.ensures.0 c.from_residual.ensures.1 c.reads.invariant.so_far c.in-Ok.ensures.bytes.0 c.in_err-run_lines.ensures.ran

pub reads-preserved : goal.reads-preserved
reads-preserved g c = record {
  so_far = piece_read _ _ _ _ _ _ c.reads.progress.held.items _ c.run_lines.new.progress.held.items c.reads.progress.number c.run_lines.new.progress.number c.reads.progress.script c.run_lines.new.progress.script c.reads.invariant.so_far c.in-Ok.ensures.bytes.0 c.in_ok-run_lines.ensures.ran;
  told = more_counted _ _ _ c.reads.time c.reads.invariant.told c.in-Ok.ensures.told;
  taken = taken_then _ _ _ c.reads.invariant.taken c.in_ok-run_lines.ensures.writes;
  bound = omega (arith, c.in_ok-run_lines.ensures.count, c.reads.invariant.bound, c.in-Ok.ensures.bound, c.if-count-eq0.array_long, length-take c.in-Ok.count c.read_front.new.buf);
}

pub returns-then-count-eq0-clause-reads : goal.returns-then-count-eq0-clause-reads
returns-then-count-eq0-clause-reads g c =
    let given = none_failed _ _ (c.reads.time + 1) (omega (arith, c.reads-test.true)) (more_counted _ _ _ c.reads.time c.reads.invariant.told c.in-Ok.ensures.told) in
    last_read c.reads.progress.held.items (c.reads.progress.number + 1) c.reads.progress.script c.run_last.new.script _ _ c.run_last.result _ _ (rw c.as_slice.ensures.value at c.run_last.ensures.ran) given

pub returns-in_err-run_lines-clause-reads : goal.returns-in_err-run_lines-clause-reads
returns-in_err-run_lines-clause-reads g c =
    let given = none_failed _ _ (c.reads.time + 1) (omega (arith, c.reads-test.true)) (more_counted _ _ _ c.reads.time c.reads.invariant.told c.in-Ok.ensures.told) in
    lines_read _ c.run_lines.new.progress.held.items c.reads.progress.number c.run_lines.new.progress.number c.reads.progress.script c.run_lines.new.progress.script _ _ _ c.from_residual.result _ _ c.from_residual.ensures.0 c.from_residual.ensures.1 c.in_err-run_lines.ensures.ran given

pub returns-in_default-clause-reads : goal.returns-in_default-clause-reads
returns-in_default-clause-reads g c = fault_told _ _ _ c.reads.time (omega (arith, c.reads-test.true)) c.reads.invariant.told c.in_default.ensures.told

pub returns-clause-reads : goal.returns-clause-reads
returns-clause-reads g c = bound_told _ _ c.reads.time (omega (arith, c.reads-test.false, c.reads.auto.time-end)) c.reads.invariant.told

pub run_last-requires : goal.run_last-requires
run_last-requires g c = reached_by _ _ _ c.reads.invariant.so_far.done

pub run_lines-requires-clause-reached : goal.run_lines-requires-clause-reached
run_lines-requires-clause-reached g c = reached_by _ _ _ c.reads.invariant.so_far.done
