use Rattle.std.proofs.Common.{◌≡◌, ◌++◌, ◌+◌, ◌<◌, ◌^◌, length, reverse, vec_len}
use Rattle.acap_ordmap.specs.Ranks.{units}
use Rattle.acap_ordmap.proofs.from_sorted.into_leaves.Given as goal

abbrev pub invariant-loop-item : goal.invariant-loop-item
invariant-loop-item g l = record {
  whole : l.made.0 ++ units (reverse l.left.items) ≡ units l.fn.items.items;
  few : length l.made.0 + vec_len l.left < 2 ^ 64;
}

abbrev pub decreases-loop-item : goal.decreases-loop-item
decreases-loop-item g l = vec_len l.left
