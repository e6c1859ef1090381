use Rattle.std.proofs.Common.{◌≡◌, ◌++◌, map}
use Rattle.acap_inherit.specs.Touching.{path_at}
use Rattle.acap_inherit.proofs.touching.add_stored.Given as goal

abbrev pub invariant-loop-path : goal.invariant-loop-path
invariant-loop-path l = record {
  added : l.to.items ++ map (path_at l.dataset) (map (λ e. e.0.name) l.path-iterator) ≡ l.fn.to.items ++ map (path_at l.dataset) (map (λ e. e.0.name) l.initial.path-iterator);
}
