use Rattle.std.proofs.Common.{◌≡◌, ◌++◌, drop}
use Rattle.std.specs.List.{flat_map}
use Rattle.acap_inherit.specs.Index.{heirs_in}
use Rattle.acap_inherit.proofs.heirs.heirs_of.Given as goal

abbrev pub invariant-loop-dataset : goal.invariant-loop-dataset
invariant-loop-dataset l = record {
  heirs : l.heirs.items ++ flat_map (heirs_in l.links.0) (drop l.dataset-index l.dataset-items) ≡ flat_map (heirs_in l.links.0) l.dataset-items;
}
