use Rattle.std.proofs.Common.{inr, ◌∙◌}
use Rattle.acap_session.proofs.Performing.{cut_by, performed_by, reported_of, stood}
use Rattle.acap_session.proofs.turns.perform_reported.Goals as goal

pub returns-in-Ok : goal.returns-in-Ok
returns-in-Ok g c =
    let p = performed_by c.args.state.now.machine c.args.occasion c.args.event c.step-answer.result c.step-answer.new.self.machine c.step-answer.ensures.ok c.step-answer.ensures.fault c.step-answer.ensures.err in
    let b = stood c.args.state.now.machine c.args.occasion c.args.event c.step-answer.result c.step-answer.new.self.machine c.step-answer.ensures.ok c.step-answer.ensures.fault c.step-answer.ensures.err in
    reported_of c.args.occasion c.args.event c.args.state.now.machine c.step-answer.new.self.machine c.args.session.now c.args.out.now.items c.step-answer.result c.in-Ok._turn _ p c.report_of-reported.result c.copy-asked.result c.copy-asked.ensures
    c.report_of-reported.ensures.told c.report_of-reported.ensures.asked b c.report_of-reported.ensures.stood c.in-Ok.ensures

pub returns-in-Err : goal.returns-in-Err
returns-in-Err g c =
    let p = performed_by c.args.state.now.machine c.args.occasion c.args.event c.step-answer.result c.step-answer.new.self.machine c.step-answer.ensures.ok c.step-answer.ensures.fault c.step-answer.ensures.err in
    inr (cut_by c.args.occasion c.args.event c.args.state.now.machine c.step-answer.new.self.machine c.args.session.now c.args.out.now.items c.step-answer.result _ p c.in-Err.ensures)
