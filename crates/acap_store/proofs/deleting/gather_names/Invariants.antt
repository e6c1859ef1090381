use Rattle.std.proofs.Common.{◌≡◌, map, filter, drop}
use Rattle.acap_store.specs.Deleting as rule
use Rattle.acap_store.proofs.ToldLemmas.{with_items}
use Rattle.acap_store.proofs.deleting.gather_names.Given as goal

abbrev pub invariant-loop-at : goal.invariant-loop-at
invariant-loop-at l =
    with_items l.names.0 (map (λ d. d.path.name) (filter (rule.is_told l.tree.store.records l.dataset l.since) (drop l.at l.kept.items)))
    ≡ rule.ascending (map (λ d. d.path.name) (filter (rule.is_told l.tree.store.records l.dataset l.since) l.tree.store.deletions))
