use Rattle.std.proofs.Common.{◌≡◌, drop}
use Rattle.std.specs.List.{slice_get}
use Rattle.acap_ordmap.specs.Leaves.{contents}
use Rattle.acap_ordmap.proofs.counting.entry_at.Given as goal

abbrev pub invariant-loop-leaf : goal.invariant-loop-leaf
invariant-loop-leaf g l = slice_get (contents (drop l.leaf-index l.leaves)) l.left ≡ slice_get (contents l.leaves) l.fn.index
