use Rattle.std.proofs.Common.{◌≡◌, ◌+◌, ◌≤◌, length, map}
use Rattle.acap_search.specs.Gathering.{with_more}
use Rattle.acap_search.specs.RecordCaches.{AreKept}
use Rattle.acap_search.specs.Walks.{hits_at, names_count}
use Rattle.acap_search.proofs.dataset_walk.add_own.Given as goal

abbrev pub invariant-loop-path : goal.invariant-loop-path
invariant-loop-path g l = record {
  found : with_more l.found (hits_at l.by l.sought (map (λ e. e.0.name) l.path-iterator))
      ≡ with_more l.initial.found (hits_at l.by l.sought (map (λ e. e.0.name) l.initial.path-iterator));
  kept : AreKept l.by.records l.by.dataset l.path-iterator;
  steps : l.steps + length l.path-iterator ≡ l.initial.steps + names_count l.by;
  least : l.initial.steps ≤ l.steps;
}
