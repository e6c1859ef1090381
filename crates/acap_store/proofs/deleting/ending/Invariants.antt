use Rattle.std.proofs.Common.{◌≡◌, ◌++◌, map, filter, drop}
use Rattle.acap_store.specs.Deleting as rule
use Rattle.acap_store.proofs.deleting.ending.Given as goal

abbrev pub invariant-loop-entry : goal.invariant-loop-entry
invariant-loop-entry l = l.made ++ map (λ e. e.path) (filter (rule.is_to_end l.tree.store.records) (drop l.entry-index l.entries)) ≡ map (λ e. e.path) (filter (rule.is_to_end l.tree.store.records) l.entries)
