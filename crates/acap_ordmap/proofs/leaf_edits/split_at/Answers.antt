use Rattle.std.proofs.Common.{◌<◌, length, arith}
use Rattle.acap_ordmap.proofs.LeafLemmas.{leaf_read, split_filled}
use Rattle.acap_ordmap.proofs.WeightLemmas.{weight_split}
use Rattle.acap_ordmap.proofs.leaf_edits.split_at.Goals as goal

pub returns-clause-filled : goal.returns-clause-filled
returns-clause-filled g c =
    let at : c.args.at < length c.args.leaves.now.items = omega (arith, c.requires.within, c.args.leaves.now.ok) in
    rw (c.insert.ensures.items, c.unwrap.ensures, c.split.ensures.earlier, c.split.ensures.later, ← leaf_read _ _ _ at c.index_mut-leaf.ensures.value)
    (split_filled _ _ c.args.kept c.requires.filled at (omega (arith, c.requires.some)) (omega (arith, c.requires.full, c.requires.few)))

pub returns-clause-weight : goal.returns-clause-weight
returns-clause-weight g c =
    let at : c.args.at < length c.args.leaves.now.items = omega (arith, c.requires.within, c.args.leaves.now.ok) in
    rw (c.insert.ensures.items, c.unwrap.ensures, c.split.ensures.earlier, c.split.ensures.later, ← leaf_read _ _ _ at c.index_mut-leaf.ensures.value)
    (weight_split c.args.leaves.now.items c.args.at c.args.kept at c.requires.full c.requires.some c.requires.few)
