use Rattle.acap_views.proofs.PreparedLemmas.{prepared_law}
use Rattle.acap_views.proofs.moving.prepared_law.Goals as goal

pub returns : goal.returns
returns c =
    prepared_law c.nothing_law.ensures c.names_law.ensures c.touched_paths_law.ensures c.seen_law.ensures c.touched_law.ensures c.changed_law.ensures c.found_law.ensures c.tuple_law.ensures c.hit_law.ensures
    c.touched_moves_law.ensures
