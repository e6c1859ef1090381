use Rattle.std.proofs.Common.{◌≡◌, ◌++◌}
use Rattle.std.specs.List.{flat_map}
use Rattle.acap_entries.specs.Changes.{left_by}
use Rattle.acap_inherit.specs.Touching.{paths_in}
use Rattle.acap_inherit.proofs.touching.paths_found.Given as goal

abbrev pub invariant-loop-dataset : goal.invariant-loop-dataset
invariant-loop-dataset l = record {
  found : l.found.items ++ flat_map (paths_in l.change.writes l.tree.store.records (left_by l.change.writes l.change.moment l.tree.store).records) l.dataset-iterator
      ≡ flat_map (paths_in l.change.writes l.tree.store.records (left_by l.change.writes l.change.moment l.tree.store).records) l.initial.dataset-iterator;
}
