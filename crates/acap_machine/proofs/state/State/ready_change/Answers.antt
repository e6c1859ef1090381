use Rattle.std.proofs.Common.{ap, ◌∙◌}
use Rattle.acap_machine.proofs.ReadyLemmas.{change_ready}
use Rattle.acap_machine.proofs.state.State.ready_change.Goals as goal

pub returns-clause-answer : goal.returns-clause-answer
returns-clause-answer g c =
    change_ready c.kept_law.ensures.contexts c.args.self.now _ c.args.seat c.args.verb c.args.change c.in_ok-links.links c.in_ok-links.delta c.new.result c.work-work.result
    c.kept_law.ensures.kept c.requires.sound c.in_ok-links.ensures.index c.in_ok-links.ensures.views c.new.ensures
    ((λ i. record { realm = c.self.inside.realm; store = c.in_ok-reserve.ensures.store i; seats = c.in_ok-reserve-3.ensures.same i }) ∙ ap (λ s. s.machine) c.self.view_is)
    (c.in_ok-reserve-2.ensures.links ∙ ap (λ s. s.kept.index.0) c.self.view_is)
    (c.in_ok-reserve.ensures.room, c.in_ok-reserve-2.ensures.room, c.in_ok-reserve-3.ensures.room)
