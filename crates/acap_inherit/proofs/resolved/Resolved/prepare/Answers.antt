use Rattle.acap_inherit.proofs.IndexLemmas.{index_after}
use Rattle.acap_inherit.proofs.resolved.Resolved.prepare.Goals as goal

pub returns : goal.returns
returns c = λ new h.
    index_after c.args.change.now c.args.tree.now.store new c.args.self.now.0 c.in_ok-taken.taken.items c.in_ok-put.put.items _ c.requires h c.in_ok-taken.ensures c.in_ok-put.ensures
    (c.of.ensures.store.records new h)
