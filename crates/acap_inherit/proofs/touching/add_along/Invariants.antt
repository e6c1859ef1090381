use Rattle.std.proofs.Common.{◌≡◌, ◌++◌, map, drop}
use Rattle.acap_inherit.specs.Touching.{paths_along}
use Rattle.acap_inherit.proofs.touching.add_along.Given as goal

abbrev pub invariant-loop-member : goal.invariant-loop-member
invariant-loop-member l = record {
  added : l.to.items ++ paths_along l.after.writes.now l.after.tree.now.store.records l.all l.dataset (map (λ d. d.now) (drop l.member-index l.member-items))
      ≡ l.fn.to.items ++ paths_along l.after.writes.now l.after.tree.now.store.records l.all l.dataset (map (λ d. d.now) l.member-items);
}
