use Rattle.std.proofs.Common.{ap}
use Rattle.acap_machine.proofs.ReadyLemmas.{prepared_for}
use Rattle.acap_machine.proofs.state.State.prepare_followers.Goals as goal

pub returns-clause-views : goal.returns-clause-views
returns-clause-views g c =
    prepared_for c.args.change.now c.self.inside.realm c.self.inside.tree.store c.self.inside.views c.args.self.now.machine c.in_ok-delta.delta
    (ap (λ s. s.machine) c.self.view_is) c.in_ok-delta.ensures.made
