use Rattle.acap_views.proofs.MovingLemmas.{touched_moves_law}
use Rattle.acap_views.proofs.moving.touched_moves_law.Goals as goal

pub returns : goal.returns
returns c = touched_moves_law c.nothing_law.ensures c.names_law.ensures c.touched_paths_law.ensures c.seen_law.ensures c.touched_law.ensures c.changed_law.ensures c.found_law.ensures c.moved_law.ensures
