use Rattle.std.proofs.Common.{◌≡◌, ◌++◌, drop}
use Rattle.std.specs.List.{flat_map}
use Rattle.acap_inherit.specs.Touching.{path_written}
use Rattle.acap_inherit.proofs.touching.add_written.Given as goal

abbrev pub invariant-loop-path : goal.invariant-loop-path
invariant-loop-path l = record {
  added : l.to.items ++ flat_map (path_written l.after.tree.now.store.records l.dataset l.member) (drop l.path-index l.path-items)
      ≡ l.fn.to.items ++ flat_map (path_written l.after.tree.now.store.records l.dataset l.member) l.path-items;
}
