use Rattle.acap_session.proofs.Performing.{asked_by, cut_by, match_then, performed_by}
use Rattle.acap_session.proofs.turns.perform.Goals as goal

pub returns : goal.returns
returns g c =
    let p = performed_by c.args.state.now.machine c.args.occasion c.args.event c.step-outcome.result c.step-outcome.new.self.machine c.step-outcome.ensures.ok c.step-outcome.ensures.fault c.step-outcome.ensures.err in
    match_then c.conclude.result _ _ _ _
    (λ came k. record { refused = p.refused; is = asked_by c.args.occasion c.args.event c.args.state.now.machine c.step-outcome.new.self.machine c.args.session.now c.args.out.now.items c.step-outcome.result came _ p k })
    (λ memory k. cut_by c.args.occasion c.args.event c.args.state.now.machine c.step-outcome.new.self.machine c.args.session.now c.args.out.now.items c.step-outcome.result _ p k)
    c.conclude.ensures
