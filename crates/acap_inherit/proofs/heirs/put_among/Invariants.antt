use Rattle.std.proofs.Common.{◌≡◌, vec_len}
use Rattle.acap_inherit.specs.Touched.{ordered_among}
use Rattle.acap_inherit.proofs.heirs.put_among.Given as goal

abbrev pub invariant-loop-item : goal.invariant-loop-item
invariant-loop-item g l = record {
  ranked : ordered_among g.T.Ord.cmp l.items.items l.ranked.0 ≡ ordered_among g.T.Ord.cmp l.fn.items.items l.fn.ranked.0;
}

abbrev pub decreases-loop-item : goal.decreases-loop-item
decreases-loop-item g l = vec_len l.items
