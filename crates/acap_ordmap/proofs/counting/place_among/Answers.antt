use Rattle.std.proofs.Common.{◌<◌, length, arith}
use Rattle.acap_ordmap.proofs.LeafLemmas.{leaf_read, leaf_in_order, place_of_leaf}
use Rattle.acap_ordmap.proofs.SortedLemmas.{place_le}
use Rattle.acap_ordmap.proofs.counting.place_among.Goals as goal

pub place_of-place-requires : goal.place_of-place-requires
place_of-place-requires g c =
    let at : c.leaf_of-at.result < length c.args.leaves.now = omega (arith, c.leaf_of-at.ensures.within) in
    rw (c.as_slice.ensures, ← leaf_read _ _ _ at c.index-leaves-at.is) (leaf_in_order g.K.Ord.cmp _ _ c.requires.sorted at)

pub returns-clause-place : goal.returns-clause-place
returns-clause-place g c =
    let at : c.leaf_of-at.result < length c.args.leaves.now = omega (arith, c.leaf_of-at.ensures.within) in
    rw (c.place_of-place.ensures.place, c.as_slice.ensures, ← leaf_read _ _ _ at c.index-leaves-at.is) (place_of_leaf g.K.Ord.cmp _ _ _ c.leaf_of-at.ensures)

pub returns-clause-within : goal.returns-clause-within
returns-clause-within g c =
    let at : c.leaf_of-at.result < length c.args.leaves.now = omega (arith, c.leaf_of-at.ensures.within) in
    rw (c.place_of-place.ensures.place, leaf_read _ _ _ at c.index-leaves-at.is, c.as_slice.ensures) (place_le g.K.Ord.cmp _ _)
