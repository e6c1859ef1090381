use Rattle.std.proofs.Common.{◌≡◌, length}
use Rattle.std.specs.FinMap.{is_sorted}
use Rattle.acap_ordmap.specs.Ranks.{units}
use Rattle.acap_ordmap.proofs.from_sorted.ascend.Given as goal

abbrev pub invariant-loop-first : goal.invariant-loop-first
invariant-loop-first g l = is_sorted g.T.Ord.cmp (units l.items) ≡ is_sorted g.T.Ord.cmp (units l.left)

abbrev pub decreases-loop-first : goal.decreases-loop-first
decreases-loop-first g l = length l.left
