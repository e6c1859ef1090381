use Rattle.acap_ordmap.proofs.LeafLemmas.{leaf_read}
use Rattle.acap_ordmap.proofs.ReplaceLemmas.{leaf_there, at_most, inserted, inserted_filled, inserted_length, inserted_weight}
use Rattle.acap_ordmap.proofs.replacing.insert_at.Goals as goal

pub insert-requires-clause-within : goal.insert-requires-clause-within
insert-requires-clause-within g c =
    let at = leaf_there g.K.Ord.cmp g.met.K.Ord.total c.args.key c.args.leaves.now.items c.args.slot.leaf c.args.slot.at c.requires.lies in
    rw (← leaf_read _ _ _ at c.index_mut-leaf.ensures.value) (at_most g.K.Ord.cmp g.met.K.Ord.total _ _ _ _ c.requires.lies)

pub returns-clause-items : goal.returns-clause-items
returns-clause-items g c =
    let at = leaf_there g.K.Ord.cmp g.met.K.Ord.total c.args.key c.args.leaves.now.items c.args.slot.leaf c.args.slot.at c.requires.lies in
    rw (c.insert.ensures, ← leaf_read _ _ _ at c.index_mut-leaf.ensures.value) (inserted g.K.Ord.cmp g.met.K.Ord.total _ _ _ _ c.requires.lies c.args.value c.requires.absent)

pub returns-clause-filled : goal.returns-clause-filled
returns-clause-filled g c =
    let at = leaf_there g.K.Ord.cmp g.met.K.Ord.total c.args.key c.args.leaves.now.items c.args.slot.leaf c.args.slot.at c.requires.lies in
    rw (c.insert.ensures, ← leaf_read _ _ _ at c.index_mut-leaf.ensures.value) (inserted_filled g.K.Ord.cmp g.met.K.Ord.total _ _ _ _ c.requires.lies c.args.value c.requires.filled)

pub returns-clause-count : goal.returns-clause-count
returns-clause-count g c =
    let at = leaf_there g.K.Ord.cmp g.met.K.Ord.total c.args.key c.args.leaves.now.items c.args.slot.leaf c.args.slot.at c.requires.lies in
    rw (c.insert.ensures, ← leaf_read _ _ _ at c.index_mut-leaf.ensures.value) (inserted_length g.K.Ord.cmp g.met.K.Ord.total _ _ _ _ c.requires.lies c.args.value)

pub returns-clause-weight : goal.returns-clause-weight
returns-clause-weight g c =
    let at = leaf_there g.K.Ord.cmp g.met.K.Ord.total c.args.key c.args.leaves.now.items c.args.slot.leaf c.args.slot.at c.requires.lies in
    rw (c.insert.ensures, ← leaf_read _ _ _ at c.index_mut-leaf.ensures.value) (inserted_weight g.K.Ord.cmp g.met.K.Ord.total _ _ _ _ c.requires.lies c.args.value)
