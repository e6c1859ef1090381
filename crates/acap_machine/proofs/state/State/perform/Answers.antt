use Rattle.std.proofs.Common.{ap, ◌∙◌}
use Rattle.acap_inherit.specs.Index.{index_with}
use Rattle.acap_machine.proofs.ReadyLemmas.{committed, kept_committed}
use Rattle.acap_machine.proofs.state.State.perform.Goals as goal

pub invariant_of-self-in-Changes : goal.invariant_of-self-in-Changes
invariant_of-self-in-Changes c =
    let now = c.args.self.now in
    kept_committed c.args.effect c.in-Changes.change c.in-Changes.links c.in-Changes.delta now.kept.index.0 c.commit-in-Changes.new.self.0 _ _ c.in-Changes.is
    (committed c.args.effect c.in-Changes.change c.in-Changes.links c.in-Changes.delta c.args.seat now.machine c.self.inside.realm c.self.inside.tree.store
    c.commit.new.self.store c.self.inside.views c.on_change.new.self
    (ap (λ s. s.machine) c.self.view_is) c.in-Changes.is c.commit.ensures c.on_change.ensures)
    (c.commit-in-Changes.ensures ∙ ap (λ s. index_with c.in-Changes.links s.kept.index.0) c.self.view_is)
    c.requires.sound

pub returns-in-Changes : goal.returns-in-Changes
returns-in-Changes c =
    committed c.args.effect c.in-Changes.change c.in-Changes.links c.in-Changes.delta c.args.seat c.args.self.now.machine c.self.inside.realm c.self.inside.tree.store
    c.commit.new.self.store c.self.inside.views c.on_change.new.self
    (ap (λ s. s.machine) c.self.view_is) c.in-Changes.is c.commit.ensures c.on_change.ensures
