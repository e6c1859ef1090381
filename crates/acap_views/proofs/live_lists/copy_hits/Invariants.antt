use Rattle.std.proofs.Common.{◌≡◌, take}
use Rattle.acap_views.specs.Undoing.{matches_lent}
use Rattle.acap_views.proofs.live_lists.copy_hits.Given as goal

abbrev pub invariant-loop-hit : goal.invariant-loop-hit
invariant-loop-hit l = record { made : l.made.items ≡ matches_lent (take l.hit-index l.hits.items) }
