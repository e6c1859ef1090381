use Rattle.std.proofs.Common.{ap, ◌∙◌}
use Rattle.acap_machine.proofs.ReadyLemmas.{updates}
use Rattle.acap_machine.proofs.state.State.ready_update.Goals as goal

pub returns-clause-answer : goal.returns-clause-answer
returns-clause-answer c =
    let store = c.self.inside.tree.store in
    updates c.kept_law.ensures.contexts c.args.self.now _ c.args.seat c.in_ok-user.field-0.now c.args.names c.as_slice.result.now c.last-last.result _ c.in-Ok.tolds c.new.result
    c.in_ok-user.ensures.ok (ap (λ s. s.machine.seats) c.self.view_is) c.as_slice.ensures (c.last-last.ensures ∙ ap (λ s. s.machine.store.last) c.self.view_is) c.in-Ok.ensures.answer c.new.ensures c.kept_law.ensures.kept
    ((λ i. record { realm = c.self.inside.realm; store = store; seats = c.in-Ok.ensures.same i }) ∙ ap (λ s. s.machine) c.self.view_is) (ap (λ s. s.kept.index.0) c.self.view_is)
