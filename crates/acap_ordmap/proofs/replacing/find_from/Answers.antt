use Rattle.std.proofs.Common.{◌<◌, length, arith, ap, sym, ◌∙◌}
use Rattle.acap_ordmap.specs.Sorted.{is_tied}
use Rattle.acap_ordmap.proofs.LeafLemmas.{leaf_read, leaf_in_order, tied_in_leaf}
use Rattle.acap_ordmap.proofs.replacing.find_from.Goals as goal

pub place_of-at-requires : goal.place_of-at-requires
place_of-at-requires g c =
    let at : c.leaf_of-leaf.result < length c.args.leaves.now = omega (arith, c.leaf_of-leaf.ensures.within) in
    rw (c.as_slice-entries.ensures, ← leaf_read _ _ _ at c.index-leaves-leaf.is) (leaf_in_order g.K.Ord.cmp _ _ c.requires.sorted at)

pub returns-clause-tied : goal.returns-clause-tied
returns-clause-tied g c =
    let key = g.Q.Probe.key c.args.probe.now in
    let at : c.leaf_of-leaf.result < length c.args.leaves.now = omega (arith, c.leaf_of-leaf.ensures.within) in
    let same = c.as_slice-entries.ensures ∙ sym (leaf_read _ _ _ at c.index-leaves-leaf.is) in
    c.place_of-at.ensures.tied ∙ ap (λ es. is_tied g.K.Ord.cmp key es) same ∙ tied_in_leaf g.K.Ord.cmp key c.args.leaves.now c.leaf_of-leaf.result c.leaf_of-leaf.ensures
