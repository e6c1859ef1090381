use Rattle.std.proofs.Common.{sym, subst}
use Rattle.acap_views.specs.HitCursors.{AreAmong}
use Rattle.acap_views.proofs.SeekLemmas.{all_among}
use Rattle.acap_views.proofs.hit_cursor.HitCursor.over.Goals as goal

pub invariant_of-result : goal.invariant_of-result
invariant_of-result c = subst (AreAmong c.args.hits.now.0) (sym c.iter.ensures) (all_among c.args.hits.now.0)
