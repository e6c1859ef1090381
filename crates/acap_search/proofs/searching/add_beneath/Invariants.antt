use Rattle.std.proofs.Common.{◌≡◌, ◌+◌, ◌≤◌, flat_map}
use Rattle.std.specs.List.{sum_by}
use Rattle.acap_search.specs.Gathering.{with_more}
use Rattle.acap_search.specs.Walks.{hits_by, count_by, count_beneath}
use Rattle.acap_search.proofs.searching.add_beneath.Given as goal

abbrev pub invariant-loop-path : goal.invariant-loop-path
invariant-loop-path g l = record {
  found : with_more l.found (flat_map (hits_by l.search l.depth) l.path-iterator)
      ≡ with_more l.initial.found (flat_map (hits_by l.search l.depth) l.initial.path-iterator);
  steps : l.steps + sum_by (count_by l.search l.depth) l.path-iterator ≡ l.initial.steps + count_beneath l.search l.depth;
  least : l.initial.steps ≤ l.steps;
}
