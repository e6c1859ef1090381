use Rattle.std.proofs.Common.{◌≡◌, inl, inr, ap, subst, sym, ◌∙◌}
use Rattle.acap_dialogue.specs.Session.{session_drain, drain_in, is_asked}
use Rattle.acap_session.specs.Turning.{scene}
use Rattle.acap_session.proofs.Performing.{asked_by, cut_drain, draining, drained_by, match_then, not_drained, performed_by, stood, undrained}
use Rattle.acap_session.proofs.turns.drain.Goals as goal

pub conclude-requires : goal.conclude-requires
conclude-requires g c = ap is_asked (draining c.args.session.now c.begin_drain.new.self (subst (λ b. (drain_in b, c.begin_drain.new.self) ≡ session_drain c.args.session.now) c.if-not-begin_drain.false c.begin_drain.ensures))

pub end_drain-requires : goal.end_drain-requires
end_drain-requires g c = draining c.args.session.now c.begin_drain.new.self (subst (λ b. (drain_in b, c.begin_drain.new.self) ≡ session_drain c.args.session.now) c.if-not-begin_drain.false c.begin_drain.ensures)

pub returns-then-not-begin_drain : goal.returns-then-not-begin_drain
returns-then-not-begin_drain g c =
    not_drained c.args.occasion (scene c.args.state.now.machine c.args.session.now c.args.out.now.items) c.begin_drain.new.self (subst (λ b. (drain_in b, c.begin_drain.new.self) ≡ session_drain c.args.session.now) c.if-not-begin_drain.true c.begin_drain.ensures)

pub returns-then-is_refused : goal.returns-then-is_refused
returns-then-is_refused g c =
    inl (undrained (scene c.args.state.now.machine c.args.session.now c.args.out.now.items) c.begin_drain.new.self c.end_drain.new.self c.step-outcome.new.self.machine c.step-outcome.result (subst (λ b. (drain_in b, c.begin_drain.new.self) ≡ session_drain c.args.session.now) c.if-not-begin_drain.false c.begin_drain.ensures) (sym c.is_refused.ensures ∙ c.if-is_refused.true) c.step-outcome.ensures.err c.end_drain.ensures)

pub returns : goal.returns
returns g c =
    let p = performed_by c.args.state.now.machine c.args.occasion _ c.step-outcome.result c.step-outcome.new.self.machine c.step-outcome.ensures.ok c.step-outcome.ensures.fault c.step-outcome.ensures.err in
    let b = stood c.args.state.now.machine c.args.occasion _ c.step-outcome.result c.step-outcome.new.self.machine c.step-outcome.ensures.ok c.step-outcome.ensures.fault c.step-outcome.ensures.err ∙ sym c.is_refused.ensures ∙ c.if-is_refused.false in
    let s = scene c.args.state.now.machine c.args.session.now c.args.out.now.items in
    let asked = subst (λ b. (drain_in b, c.begin_drain.new.self) ≡ session_drain c.args.session.now) c.if-not-begin_drain.false c.begin_drain.ensures in
    match_then c.conclude.result _ _ _ _
    (λ came k. drained_by c.args.occasion s c.begin_drain.new.self came _ p.refused asked b (asked_by c.args.occasion _ c.args.state.now.machine c.step-outcome.new.self.machine c.begin_drain.new.self c.args.out.now.items c.step-outcome.result came _ p k))
    (λ memory k. inr (cut_drain c.args.occasion s _ c.step-outcome.new.self.machine c.begin_drain.new.self c.step-outcome.result p b asked k))
    c.conclude.ensures
