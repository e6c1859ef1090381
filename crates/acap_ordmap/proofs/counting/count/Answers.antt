use Rattle.std.proofs.Common.{◌+◌, length, arith, ap, drop}
use Rattle.std.proofs.Common.{length-append}
use Rattle.acap_ordmap.specs.Leaves.{contents}
use Rattle.acap_ordmap.proofs.LeafLemmas.{next_leaf}
use Rattle.acap_ordmap.proofs.counting.count.Goals as goal

pub overflow_add-count : goal.overflow_add-count
overflow_add-count g c =
    let next = ap length (next_leaf c.args.leaves.now c.loop-leaf.leaf-index c.leaf-item.result c.loop-leaf-test.true c.leaf-item.is) in
    omega (arith, next, length-append c.leaf-item.result (contents (drop (c.loop-leaf.leaf-index + 1) c.args.leaves.now)), c.loop-leaf.invariant, c.requires, c.len-count.ensures.value)

pub loop-leaf-preserved : goal.loop-leaf-preserved
loop-leaf-preserved g c =
    let next = ap length (next_leaf c.args.leaves.now c.loop-leaf.leaf-index c.leaf-item.result c.loop-leaf-test.true c.leaf-item.is) in
    omega (arith, next, length-append c.leaf-item.result (contents (drop (c.loop-leaf.leaf-index + 1) c.args.leaves.now)), c.loop-leaf.invariant, c.len-count.ensures.value)
