use Rattle.std.proofs.Common.{◌≡◌, ◌≤◌, vec_len}
use Rattle.acap_inherit.specs.Index.{without_all}
use Rattle.acap_inherit.proofs.linking.take_all.Given as goal

abbrev pub invariant-loop-link : goal.invariant-loop-link
invariant-loop-link l = record {
  links : without_all l.taken.items l.links.0 ≡ without_all l.fn.taken.items l.fn.links.0;
  room : l.fn.links.1 ≤ l.links.1;
}

abbrev pub decreases-loop-link : goal.decreases-loop-link
decreases-loop-link l = vec_len l.taken
