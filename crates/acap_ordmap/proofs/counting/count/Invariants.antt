use Rattle.std.proofs.Common.{◌≡◌, ◌+◌, length, drop}
use Rattle.acap_ordmap.specs.Leaves.{contents}
use Rattle.acap_ordmap.proofs.counting.count.Given as goal

abbrev pub invariant-loop-leaf : goal.invariant-loop-leaf
invariant-loop-leaf g l = l.count + length (contents (drop l.leaf-index l.leaves)) ≡ length (contents l.leaves)
