use Rattle.std.proofs.Common.{◌≡◌, ◌++◌, drop}
use Rattle.std.specs.List.{flat_map}
use Rattle.acap_inherit.specs.Index.{links_of}
use Rattle.acap_inherit.proofs.linking.links_written.Given as goal

abbrev pub invariant-loop-path : goal.invariant-loop-path
invariant-loop-path g l = record {
  links : l.links.items ++ flat_map (λ w. links_of (g.R.Records.store l.records).records w.0) (drop l.path-index l.path-items)
      ≡ flat_map (λ w. links_of (g.R.Records.store l.records).records w.0) l.path-items;
}
