use Rattle.std.proofs.Common.{◌≡◌, ◌||◌, ℕ, List, drop}
use Rattle.std.specs.List.{list_any}
use Rattle.acap_inherit.specs.Reaching.{is_known, writes_in}
use Rattle.acap_inherit.proofs.reached.written_datasets.Given as goal

abbrev pub invariant-loop-path : goal.invariant-loop-path
invariant-loop-path l = record {
  known : (d : List ℕ) → (is_known l.known.items d || list_any (λ w. writes_in l.tree.store.records w d) (drop l.path-index l.path-items))
      ≡ list_any (λ w. writes_in l.tree.store.records w d) l.path-items;
}
