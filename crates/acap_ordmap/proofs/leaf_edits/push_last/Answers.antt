use Rattle.std.proofs.Common.{◌≡◌, ◌<◌, ◌+◌, ◌-◌, length, arith}
use Rattle.acap_ordmap.proofs.LeafLemmas.{leaf_read, joined_last, filled_last}
use Rattle.acap_ordmap.proofs.leaf_edits.push_last.Goals as goal

pub returns-clause-items : goal.returns-clause-items
returns-clause-items g c =
    let last : c.len-last.result - 1 + 1 ≡ length c.args.leaves.now.items = omega (arith, c.requires.some, c.len-last.ensures, c.args.leaves.now.ok) in
    let at : c.len-last.result - 1 < length c.args.leaves.now.items = omega (arith, last) in
    rw (c.push.ensures, ← leaf_read _ _ _ at c.index_mut-leaf.ensures.value) (joined_last _ _ _ last)

pub returns-clause-filled : goal.returns-clause-filled
returns-clause-filled g c = rw c.push.ensures (filled_last _ _ _ _ c.requires.filled)
