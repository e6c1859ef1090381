use Rattle.std.proofs.Common.{◌≡◌, ◌≤◌, vec_len}
use Rattle.acap_inherit.specs.Index.{with_all}
use Rattle.acap_inherit.proofs.linking.put_all.Given as goal

abbrev pub invariant-loop-link : goal.invariant-loop-link
invariant-loop-link l = record {
  links : with_all l.put.items l.links.0 ≡ with_all l.fn.put.items l.fn.links.0;
  room : vec_len l.put ≤ l.links.1;
}

abbrev pub decreases-loop-link : goal.decreases-loop-link
decreases-loop-link l = vec_len l.put
