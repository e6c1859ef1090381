use Rattle.std.proofs.Common.{◌<◌, length, ap, arith}
use Rattle.acap_ordmap.proofs.LeafLemmas.{leaf_read, leaf_in_order, put_in_leaf, tied_in_leaf, filled_set, joined_set_length}
use Rattle.acap_ordmap.proofs.WeightLemmas.{weight_set}
use Rattle.acap_ordmap.proofs.leaf_edits.put_at.Goals as goal

pub put-requires-clause-room : goal.put-requires-clause-room
put-requires-clause-room g c =
    let at : c.args.at < length c.args.leaves.now.items = omega (arith, c.requires.among.within) in
    let whole = leaf_read _ _ _ at c.index_mut-leaf.ensures.value in
    let tied = tied_in_leaf g.K.Ord.cmp _ _ _ c.requires.among in
    λ none. omega (arith, ap length whole, c.requires.room (cc (tied, whole, none)))

pub put-requires-clause-sorted : goal.put-requires-clause-sorted
put-requires-clause-sorted g c =
    let at : c.args.at < length c.args.leaves.now.items = omega (arith, c.requires.among.within) in
    rw (← leaf_read _ _ _ at c.index_mut-leaf.ensures.value) (leaf_in_order g.K.Ord.cmp _ _ c.requires.sorted at)

pub returns-clause-items : goal.returns-clause-items
returns-clause-items g c =
    let at : c.args.at < length c.args.leaves.now.items = omega (arith, c.requires.among.within) in
    rw (c.put.ensures.value, ← leaf_read _ _ _ at c.index_mut-leaf.ensures.value) (put_in_leaf g.K.Ord.cmp _ _ _ _ c.requires.among)

pub returns-clause-filled : goal.returns-clause-filled
returns-clause-filled g c = filled_set _ _ _ c.requires.filled c.put.ensures.filled

pub returns-clause-count : goal.returns-clause-count
returns-clause-count g c =
    let at : c.args.at < length c.args.leaves.now.items = omega (arith, c.requires.among.within) in
    let counted = joined_set_length c.args.leaves.now.items c.args.at c.put.new.self at in
    let before = ap length (leaf_read _ _ _ at c.index_mut-leaf.ensures.value) in
    omega (arith, counted, before, c.len.ensures.value, c.len-count.ensures.value, c.put.ensures.grows)

pub returns-clause-weight : goal.returns-clause-weight
returns-clause-weight g c =
    let at : c.args.at < length c.args.leaves.now.items = omega (arith, c.requires.among.within) in
    let before = ap length (leaf_read _ _ _ at c.index_mut-leaf.ensures.value) in
    weight_set c.args.leaves.now.items c.args.at c.put.new.self 1 at (omega (arith, before, c.put.ensures.by_one))
