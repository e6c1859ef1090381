use Rattle.std.proofs.Common.{◌<◌, length, arith}
use Rattle.acap_ordmap.proofs.LeafLemmas.{leaf_read, leaf_in_order, found_in_leaf, found_none}
use Rattle.acap_ordmap.proofs.leaf_search.find_among.Goals as goal

pub returns-then-is_empty : goal.returns-then-is_empty
returns-then-is_empty g c = found_none g.K.Ord.cmp (g.Q.Probe.key c.args.probe.now) c.args.leaves.now c.if-is_empty.ensures

pub lookup-requires : goal.lookup-requires
lookup-requires g c =
    let at : c.leaf_of-at.result < length c.args.leaves.now = omega (arith, c.leaf_of-at.ensures.within) in
    rw (c.as_slice.ensures, ← leaf_read _ _ _ at c.index-leaves-at.is) (leaf_in_order g.K.Ord.cmp _ _ c.requires.sorted at)

pub returns : goal.returns
returns g c =
    let at : c.leaf_of-at.result < length c.args.leaves.now = omega (arith, c.leaf_of-at.ensures.within) in
    rw (c.lookup.ensures, c.as_slice.ensures, ← leaf_read _ _ _ at c.index-leaves-at.is) (found_in_leaf g.K.Ord.cmp g.met.K.Ord.total (g.Q.Probe.key c.args.probe.now) _ _ c.requires.sorted c.leaf_of-at.ensures)
