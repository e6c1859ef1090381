use Rattle.std.proofs.Common.{ap, ◌∙◌, sym}
use Rattle.std.specs.FinMap as table
use Rattle.acap_machine.proofs.ReadyLemmas.{frees_ready}
use Rattle.acap_machine.proofs.state.State.ready_free.Goals as goal
use Rattle.acap_views.specs.Keeping.{seats_in}
use Rattle.acap_views.specs.Seats.{contexts_at}

pub returns-clause-answer : goal.returns-clause-answer
returns-clause-answer c =
    let there = sym c.has_context.ensures ∙ c.if-not-has_context.false in
    frees_ready c.kept_law.ensures.contexts c.args.self.now c.args.seat c.in_ok-user.field-0.now c.args.name c.new.result c.in_ok-user.ensures.ok
    (sym (ap (λ s. table.contains_key (contexts_at s.machine.seats c.args.seat) c.args.name) c.self.view_is) ∙ there)
    (sym (ap (λ s. table.contains_key (contexts_at (seats_in s.kept.views) c.args.seat) c.args.name) c.self.view_is) ∙ there)
    c.new.ensures c.kept_law.ensures.kept
