use Rattle.acap_views.specs.HitCursors.{AreAmong}
use Rattle.acap_views.proofs.hit_cursor.first_from.Given as goal

abbrev pub invariant-passed : goal.invariant-passed
invariant-passed l = record { among : AreAmong l.hits.0 l.others }
