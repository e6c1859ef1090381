use Rattle.std.proofs.Common.{◌≡◌, length}
use Rattle.std.specs.FinMap.{is_sorted}
use Rattle.acap_ordmap.proofs.sorted.ascends.Given as goal

abbrev pub invariant-loop-first : goal.invariant-loop-first
invariant-loop-first g l = is_sorted g.K.Ord.cmp l.entries ≡ is_sorted g.K.Ord.cmp l.left

abbrev pub decreases-loop-first : goal.decreases-loop-first
decreases-loop-first g l = length l.left
