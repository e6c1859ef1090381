use Rattle.std.proofs.Common.{◌≡◌, ◌++◌, map, drop}
use Rattle.std.specs.List.{flat_map}
use Rattle.acap_inherit.specs.Leaving.{in_ahead}
use Rattle.acap_inherit.proofs.reach.add_each.Given as goal

abbrev pub invariant-loop-dataset : goal.invariant-loop-dataset
invariant-loop-dataset l = record {
  added : l.to.items ++ flat_map (in_ahead l.after) (map (λ d. d.now) (drop l.dataset-index l.datasets)) ≡ l.fn.to.items ++ flat_map (in_ahead l.after) (map (λ d. d.now) l.datasets);
}
