use Rattle.std.proofs.Common.{◌≡◌, ◌++◌, map, drop}
use Rattle.std.specs.List.{filter}
use Rattle.acap_inherit.specs.Touching.{changes}
use Rattle.acap_inherit.proofs.heirs.copy_written.Given as goal

abbrev pub invariant-loop-path : goal.invariant-loop-path
invariant-loop-path l = record {
  datasets : l.datasets.items ++ map (λ w. w.0.dataset) (filter (changes l.tree.store.records) (drop l.path-index l.path-items))
      ≡ map (λ w. w.0.dataset) (filter (changes l.tree.store.records) l.path-items);
}
