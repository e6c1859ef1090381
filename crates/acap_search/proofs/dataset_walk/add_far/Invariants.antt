use Rattle.std.proofs.Common.{◌≡◌, ◌+◌, ◌≤◌, length}
use Rattle.acap_search.specs.Gathering.{with_more}
use Rattle.acap_search.specs.Walks.{hits_at, names_count}
use Rattle.acap_search.proofs.dataset_walk.add_far.Given as goal

abbrev pub invariant-loop-name : goal.invariant-loop-name
invariant-loop-name g l = record {
  found : with_more l.found (hits_at l.by l.sought l.name-iterator)
      ≡ with_more l.initial.found (hits_at l.by l.sought l.initial.name-iterator);
  steps : l.steps + length l.name-iterator ≡ l.initial.steps + names_count l.by;
  least : l.initial.steps ≤ l.steps;
}
