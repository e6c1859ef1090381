use Rattle.std.proofs.Common.{◌≡◌, ◌≤◌, vec_len}
use Rattle.std.specs.FinMap as map
use Rattle.acap_ordmap.specs.Sorted.{InOrder}
use Rattle.acap_entries.specs.Store.{path_cmp, after_writes}
use Rattle.acap_entries.proofs.applying.put_all.Given as goal

abbrev pub invariant-loop-path : goal.invariant-loop-path
invariant-loop-path l = record {
  room : vec_len l.left ≤ l.entries.1;
  sorted : InOrder path_cmp l.entries.0;
  records : after_writes l.left.items (map.from_sorted {R = path_cmp} l.entries.0) ≡ after_writes l.initial.left.items (map.from_sorted {R = path_cmp} l.fn.entries.0);
}

abbrev pub decreases-loop-path : goal.decreases-loop-path
decreases-loop-path l = vec_len l.left
