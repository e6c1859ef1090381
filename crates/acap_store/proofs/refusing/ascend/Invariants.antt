use Rattle.std.proofs.Common.{◌≡◌, length}
use Rattle.acap_store.specs.Rising.{rising}
use Rattle.acap_store.proofs.refusing.ascend.Given as goal

abbrev pub invariant-loop-first : goal.invariant-loop-first
invariant-loop-first l = rising l.entries ≡ rising l.left

abbrev pub decreases-loop-first : goal.decreases-loop-first
decreases-loop-first l = length l.left
