use Rattle.std.proofs.Common.{◌+◌, refl, ◌∙◌, arith}
use Rattle.acap_session.proofs.ScriptRunning.{none_run, ends_at, line_ran, lines_cut, lines_fail, all_run}
use Rattle.acap_session.proofs.ScriptTaking.{reached_on}
use Rattle.acap_session.proofs.Writing.{none_taken, taken_then}
use Rattle.acap_session.proofs.script_run.run_lines.Goals as goal

pub lines-init : goal.lines-init
lines-init g c = record { ran = none_run c.args.progress.now.held.items c.args.piece.now c.args.progress.now.number c.args.progress.now.script _ c.requires.line; taken = none_taken (g.W.Output.told c.args.writer.now); reached = c.requires.reached }

pub returns-in_err-run_line-clause-ran : goal.returns-in_err-run_line-clause-ran
returns-in_err-run_line-clause-ran g c =
    let there = ends_at c.lines.rest.now c.split_at.result.0.now c.split_at-in-Some.result.1.now c.in-Some.place c.in-Some.ensures.some c.split_at.ensures.front c.split_at-in-Some.ensures.back in
    lines_fail _ c.args.piece.now c.lines.progress.held.items c.lines.rest.now c.split_at.result.0.now c.split_at-in-Some.result.1.now c.as_slice.result.now c.extend_from_slice.new.self.items c.args.progress.now.number c.lines.progress.number (c.lines.progress.number + 1) c.args.progress.now.script c.lines.progress.script c.run_line.new.script _ _ _ _ c.from_residual.result c.from_residual.ensures.0 c.from_residual.ensures.1 c.lines.invariant.ran there (c.as_slice.ensures.value ∙ c.in-Ok.ensures.items) c.in_err-run_line.ensures.ran

pub lines-preserved : goal.lines-preserved
lines-preserved g c =
    let there = ends_at c.lines.rest.now c.split_at.result.0.now c.split_at-in-Some.result.1.now c.in-Some.place c.in-Some.ensures.some c.split_at.ensures.front c.split_at-in-Some.ensures.back in
    record { ran = line_ran _ c.args.piece.now c.lines.progress.held.items c.lines.rest.now c.split_at.result.0.now c.split_at-in-Some.result.1.now c.as_slice.result.now c.clear.new.self.items c.args.progress.now.number c.lines.progress.number c.args.progress.now.script c.lines.progress.script c.run_line.new.script _ _ _ c.lines.invariant.ran there (c.as_slice.ensures.value ∙ c.in-Ok.ensures.items) c.in_ok-run_line.ensures.ran c.clear.ensures.items; taken = taken_then _ _ _ c.lines.invariant.taken c.in_ok-run_line.ensures.writes; reached = reached_on _ _ _ _ c.lines.invariant.reached c.in_ok-run_line.ensures.ran.done }

pub returns-clause-ran : goal.returns-clause-ran
returns-clause-ran g c = all_run _ c.args.piece.now c.lines.progress.held.items c.lines.rest.now c.extend_from_slice-2.new.self.items c.args.progress.now.number c.lines.progress.number c.args.progress.now.script c.lines.progress.script _ _ c.lines.invariant.ran c.in_default.ensures.none c.in-Ok-extend_from_slice.ensures.items

pub returns-clause-count : goal.returns-clause-count
returns-clause-count g c = omega (arith, c.lines.invariant.ran.bound)

pub returns-in_default-extend_from_slice-clause-ran : goal.returns-in_default-extend_from_slice-clause-ran
returns-in_default-extend_from_slice-clause-ran g c = lines_cut _ c.args.piece.now c.lines.progress.held.items c.lines.rest.now c.args.progress.now.number c.lines.progress.number c.args.progress.now.script c.lines.progress.script _ _ _ c.lines.invariant.ran refl
