use Rattle.std.proofs.Common.{◌<◌, length, arith, sym}
use borrow.Author.Tests.{eqb-true}
use Rattle.acap_ordmap.proofs.LeafLemmas.{leaf_read, leaf_in_order, entry_in_leaf, entry_of_none}
use Rattle.acap_ordmap.proofs.leaf_search.entry_among.Goals as goal

pub returns-then-is_empty : goal.returns-then-is_empty
returns-then-is_empty g c = entry_of_none g.K.Ord.cmp (g.Q.Probe.key c.args.probe.now) c.args.leaves.now (eqb-true _ _ (sym c.if-is_empty.ensures))

pub entry_in-requires : goal.entry_in-requires
entry_in-requires g c =
    let at : c.leaf_of-at.result < length c.args.leaves.now = omega (arith, c.leaf_of-at.ensures.within) in
    rw (c.as_slice.ensures, ← leaf_read _ _ _ at c.index-leaves-at.is) (leaf_in_order g.K.Ord.cmp _ _ c.requires.sorted at)

pub returns : goal.returns
returns g c =
    let at : c.leaf_of-at.result < length c.args.leaves.now = omega (arith, c.leaf_of-at.ensures.within) in
    rw (c.entry_in.ensures, c.as_slice.ensures, ← leaf_read _ _ _ at c.index-leaves-at.is) (entry_in_leaf g.K.Ord.cmp g.met.K.Ord.total (g.Q.Probe.key c.args.probe.now) _ _ c.requires.sorted c.leaf_of-at.ensures)
