use Rattle.std.proofs.Common.{get_or, sym, ap, ◌∙◌}
use Rattle.acap_ordmap.proofs.LeafLemmas.{leaf_read}
use Rattle.acap_ordmap.proofs.ReplaceLemmas.{leaf_there, there_within, exchanged, exchanged_filled, exchanged_length, exchanged_weight, exchanged_for}
use Rattle.acap_ordmap.proofs.replacing.exchange_at.Goals as goal

pub exchange-requires : goal.exchange-requires
exchange-requires g c =
    let at = leaf_there g.K.Ord.cmp g.met.K.Ord.total c.args.key c.args.leaves.now.items c.args.slot.leaf c.args.slot.at c.requires.lies in
    rw (← leaf_read _ _ _ at c.index_mut-leaf.ensures.value) (there_within g.K.Ord.cmp g.met.K.Ord.total _ _ _ _ c.requires.lies c.requires.tied)

pub returns-clause-taken : goal.returns-clause-taken
returns-clause-taken g c =
    let at = leaf_there g.K.Ord.cmp g.met.K.Ord.total c.args.key c.args.leaves.now.items c.args.slot.leaf c.args.slot.at c.requires.lies in
    let same = leaf_read _ _ _ at c.index_mut-leaf.ensures.value in
    exchanged_for g.K.Ord.cmp g.met.K.Ord.total _ _ _ _ c.requires.lies c.exchange.result (c.exchange.ensures.taken ∙ ap (λ es. get_or es c.args.slot.at c.exchange.result) (sym same)) c.requires.sorted c.requires.tied

pub returns-clause-items : goal.returns-clause-items
returns-clause-items g c =
    let at = leaf_there g.K.Ord.cmp g.met.K.Ord.total c.args.key c.args.leaves.now.items c.args.slot.leaf c.args.slot.at c.requires.lies in
    rw (c.exchange.ensures.value, ← leaf_read _ _ _ at c.index_mut-leaf.ensures.value) (exchanged g.K.Ord.cmp g.met.K.Ord.total _ _ _ _ c.requires.lies c.args.value c.requires.sorted c.requires.tied)

pub returns-clause-filled : goal.returns-clause-filled
returns-clause-filled g c =
    let at = leaf_there g.K.Ord.cmp g.met.K.Ord.total c.args.key c.args.leaves.now.items c.args.slot.leaf c.args.slot.at c.requires.lies in
    rw (c.exchange.ensures.value, ← leaf_read _ _ _ at c.index_mut-leaf.ensures.value) (exchanged_filled g.K.Ord.cmp g.met.K.Ord.total _ _ _ _ c.requires.lies c.args.value c.requires.filled)

pub returns-clause-count : goal.returns-clause-count
returns-clause-count g c =
    let at = leaf_there g.K.Ord.cmp g.met.K.Ord.total c.args.key c.args.leaves.now.items c.args.slot.leaf c.args.slot.at c.requires.lies in
    rw (c.exchange.ensures.value, ← leaf_read _ _ _ at c.index_mut-leaf.ensures.value) (exchanged_length g.K.Ord.cmp g.met.K.Ord.total _ _ _ _ c.requires.lies c.args.value)

pub returns-clause-weight : goal.returns-clause-weight
returns-clause-weight g c =
    let at = leaf_there g.K.Ord.cmp g.met.K.Ord.total c.args.key c.args.leaves.now.items c.args.slot.leaf c.args.slot.at c.requires.lies in
    rw (c.exchange.ensures.value, ← leaf_read _ _ _ at c.index_mut-leaf.ensures.value) (exchanged_weight g.K.Ord.cmp g.met.K.Ord.total _ _ _ _ c.requires.lies c.args.value)
