use Rattle.std.proofs.Common.{◌≡◌, ◌+◌, suc, drop, map}
use Rattle.std.specs.List.{filter_map}
use Rattle.acap_search.specs.Gathering.{with_more}
use Rattle.acap_search.specs.DatasetCursors.{IsGroundOf}
use Rattle.acap_search.specs.Walks.{sight_by}
use Rattle.acap_search.specs.Within.{tuple_within, numbered_from, numbered_paths}
use Rattle.acap_search.proofs.context.find_among.Given as goal

abbrev pub invariant-loop-count : goal.invariant-loop-count
invariant-loop-count g l = record {
  found : with_more l.found (filter_map (tuple_within (sight_by l.search) l.search.sought) (numbered_from (suc l.count) (map (λ hit. hit.now.path) (drop l.count l.shown))))
      ≡ with_more l.fn.none (filter_map (tuple_within (sight_by l.search) l.search.sought) (numbered_paths (map (λ hit. hit.now.path) l.shown)));
  here : IsGroundOf l.search l.here;
  steps : l.steps ≡ l.initial.steps + l.count;
}
