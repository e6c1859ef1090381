use Rattle.std.proofs.Common.{◌≡◌, length}
use Rattle.acap_notices.specs.Rows.{is_each_once}
use Rattle.acap_notices.proofs.places.is_each_once.Given as goal

abbrev pub decreases-loop-row : goal.decreases-loop-row
decreases-loop-row l = length l.rest

abbrev pub invariant-loop-row : goal.invariant-loop-row
invariant-loop-row l = is_each_once l.rest ≡ is_each_once l.rows
