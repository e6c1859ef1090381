use Rattle.std.proofs.Common.{◌≡◌, ◌<◌, ◌+◌, length, set, sym, ap, ◌∙◌, arith}
use Rattle.acap_ordmap.specs.Leaves.{contents}
use Rattle.acap_ordmap.proofs.LeafLemmas.{leaf_read, leaf_in_order, entry_in_leaf, without_in_leaf, filled_set, filled_emptied, joined_emptied, positive_if, joined_set_length, some_from, none_from}
use Rattle.acap_ordmap.proofs.WeightLemmas.{weight_set, weight_remove, fewer_from}
use Rattle.acap_ordmap.proofs.leaf_edits.take_out_at.Goals as goal

pub take_out-taken-requires : goal.take_out-taken-requires
take_out-taken-requires g c =
    let at : c.args.at < length c.args.leaves.now.items = omega (arith, c.requires.among.within) in
    rw (← leaf_read _ _ _ at c.index_mut-leaf.ensures.value) (leaf_in_order g.K.Ord.cmp _ _ c.requires.sorted at)

pub returns-then-len-eq0-clause-taken : goal.returns-then-len-eq0-clause-taken
returns-then-len-eq0-clause-taken g c =
    let at : c.args.at < length c.args.leaves.now.items = omega (arith, c.requires.among.within) in
    rw (c.take_out-taken.ensures.taken, ← leaf_read _ _ _ at c.index_mut-leaf.ensures.value) (entry_in_leaf g.K.Ord.cmp g.met.K.Ord.total _ _ _ c.requires.sorted c.requires.among)

pub returns-then-len-eq0-clause-items : goal.returns-then-len-eq0-clause-items
returns-then-len-eq0-clause-items g c =
    let at : c.args.at < length c.args.leaves.now.items = omega (arith, c.requires.among.within) in
    let none : length c.take_out-taken.new.self ≡ 0 = sym c.len.ensures.value ∙ c.if-len-eq0.true in
    rw (c.remove-emptied.ensures.items, joined_emptied _ _ _ at none, c.take_out-taken.ensures.value, ← leaf_read _ _ _ at c.index_mut-leaf.ensures.value)
    (without_in_leaf g.K.Ord.cmp g.met.K.Ord.total _ _ _ c.requires.sorted c.requires.among)

pub returns-then-len-eq0-clause-filled : goal.returns-then-len-eq0-clause-filled
returns-then-len-eq0-clause-filled g c = rw c.remove-emptied.ensures.items (filled_emptied _ _ _ c.requires.filled)

pub returns-then-len-eq0-clause-some : goal.returns-then-len-eq0-clause-some
returns-then-len-eq0-clause-some g c =
    let at : c.args.at < length c.args.leaves.now.items = omega (arith, c.requires.among.within) in
    let none : length c.take_out-taken.new.self ≡ 0 = sym c.len.ensures.value ∙ c.if-len-eq0.true in
    let counted = joined_set_length c.args.leaves.now.items c.args.at c.take_out-taken.new.self at in
    let before = ap length (leaf_read _ _ _ at c.index_mut-leaf.ensures.value) in
    rw (c.remove-emptied.ensures.items, joined_emptied _ _ _ at none) (some_from c.take_out-taken.result (length c.take_out-taken.new.self + 1 ≡ length c.index_mut-leaf.result.now) (length (contents (set c.args.leaves.now.items c.args.at c.take_out-taken.new.self)) + 1 ≡ length (contents c.args.leaves.now.items)) (λ one. omega (arith, counted, before, one)) c.take_out-taken.ensures.some)

pub returns-then-len-eq0-clause-none : goal.returns-then-len-eq0-clause-none
returns-then-len-eq0-clause-none g c =
    let at : c.args.at < length c.args.leaves.now.items = omega (arith, c.requires.among.within) in
    let none : length c.take_out-taken.new.self ≡ 0 = sym c.len.ensures.value ∙ c.if-len-eq0.true in
    let counted = joined_set_length c.args.leaves.now.items c.args.at c.take_out-taken.new.self at in
    let before = ap length (leaf_read _ _ _ at c.index_mut-leaf.ensures.value) in
    rw (c.remove-emptied.ensures.items, joined_emptied _ _ _ at none) (none_from c.take_out-taken.result (length c.take_out-taken.new.self ≡ length c.index_mut-leaf.result.now) (length (contents (set c.args.leaves.now.items c.args.at c.take_out-taken.new.self)) ≡ length (contents c.args.leaves.now.items)) (λ same. omega (arith, counted, before, same)) c.take_out-taken.ensures.none)

pub returns-clause-taken : goal.returns-clause-taken
returns-clause-taken g c =
    let at : c.args.at < length c.args.leaves.now.items = omega (arith, c.requires.among.within) in
    rw (c.take_out-taken.ensures.taken, ← leaf_read _ _ _ at c.index_mut-leaf.ensures.value) (entry_in_leaf g.K.Ord.cmp g.met.K.Ord.total _ _ _ c.requires.sorted c.requires.among)

pub returns-clause-items : goal.returns-clause-items
returns-clause-items g c =
    let at : c.args.at < length c.args.leaves.now.items = omega (arith, c.requires.among.within) in
    rw (c.take_out-taken.ensures.value, ← leaf_read _ _ _ at c.index_mut-leaf.ensures.value) (without_in_leaf g.K.Ord.cmp g.met.K.Ord.total _ _ _ c.requires.sorted c.requires.among)

pub returns-clause-filled : goal.returns-clause-filled
returns-clause-filled g c = filled_set _ _ _ c.requires.filled (positive_if _ (λ none. c.if-len-eq0.false (c.len.ensures.value ∙ none)))

pub returns-clause-some : goal.returns-clause-some
returns-clause-some g c =
    let at : c.args.at < length c.args.leaves.now.items = omega (arith, c.requires.among.within) in
    let counted = joined_set_length c.args.leaves.now.items c.args.at c.take_out-taken.new.self at in
    let before = ap length (leaf_read _ _ _ at c.index_mut-leaf.ensures.value) in
    some_from c.take_out-taken.result (length c.take_out-taken.new.self + 1 ≡ length c.index_mut-leaf.result.now) (length (contents (set c.args.leaves.now.items c.args.at c.take_out-taken.new.self)) + 1 ≡ length (contents c.args.leaves.now.items)) (λ one. omega (arith, counted, before, one)) c.take_out-taken.ensures.some

pub returns-clause-none : goal.returns-clause-none
returns-clause-none g c =
    let at : c.args.at < length c.args.leaves.now.items = omega (arith, c.requires.among.within) in
    let counted = joined_set_length c.args.leaves.now.items c.args.at c.take_out-taken.new.self at in
    let before = ap length (leaf_read _ _ _ at c.index_mut-leaf.ensures.value) in
    none_from c.take_out-taken.result (length c.take_out-taken.new.self ≡ length c.index_mut-leaf.result.now) (length (contents (set c.args.leaves.now.items c.args.at c.take_out-taken.new.self)) ≡ length (contents c.args.leaves.now.items)) (λ same. omega (arith, counted, before, same)) c.take_out-taken.ensures.none

pub returns-then-len-eq0-clause-weight : goal.returns-then-len-eq0-clause-weight
returns-then-len-eq0-clause-weight g c =
    let at : c.args.at < length c.args.leaves.now.items = omega (arith, c.requires.among.within) in
    let none : length c.take_out-taken.new.self ≡ 0 = sym c.len.ensures.value ∙ c.if-len-eq0.true in
    rw c.remove-emptied.ensures.items (weight_remove c.args.leaves.now.items c.args.at c.take_out-taken.new.self at (omega (arith, none)))

pub returns-clause-weight : goal.returns-clause-weight
returns-clause-weight g c =
    let at : c.args.at < length c.args.leaves.now.items = omega (arith, c.requires.among.within) in
    let before = ap length (leaf_read _ _ _ at c.index_mut-leaf.ensures.value) in
    let few = fewer_from c.take_out-taken.result (length c.take_out-taken.new.self) (length c.index_mut-leaf.result.now) c.take_out-taken.ensures.some c.take_out-taken.ensures.none in
    omega (arith, weight_set c.args.leaves.now.items c.args.at c.take_out-taken.new.self 0 at (omega (arith, before, few)))
