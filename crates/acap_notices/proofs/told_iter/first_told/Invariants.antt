use Rattle.std.proofs.Common.{◌≡◌, length}
use Rattle.acap_notices.specs.Batches.{left_to_tell}
use Rattle.acap_notices.proofs.told_iter.first_told.Given as goal

abbrev pub invariant-loop-batch : goal.invariant-loop-batch
invariant-loop-batch l = left_to_tell l.left l.told ≡ left_to_tell l.batches l.at

abbrev pub decreases-loop-batch : goal.decreases-loop-batch
decreases-loop-batch l = length l.left
