use Rattle.std.proofs.Common.{◌≡◌, ◌++◌}
use Rattle.acap_views.proofs.live_lists.box_hits.Given as goal

abbrev pub invariant-loop-hit : goal.invariant-loop-hit
invariant-loop-hit l = record {
  made : l.made.items ≡ l.yielded;
  left : l.fn.hits ≡ l.yielded ++ l.hit-iterator.rest.items;
}
