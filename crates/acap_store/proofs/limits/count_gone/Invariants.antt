use Rattle.std.proofs.Common.{◌≡◌, ◌+◌, ◌≤◌, length, filter, drop}
use Rattle.acap_store.specs.Counting.{is_gone}
use Rattle.acap_store.proofs.limits.count_gone.Given as goal

abbrev pub invariant-loop-path : goal.invariant-loop-path
invariant-loop-path l = record {
  counted : l.count + length (filter (is_gone l.tree.store.records) (drop l.path-index l.writes)) ≡ length (filter (is_gone l.tree.store.records) l.writes);
  few : l.count ≤ l.path-index;
}
