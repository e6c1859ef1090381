use Rattle.std.proofs.Common.{◌+◌, ap, arith, flat_map, nat_eq, refl, sym, ◌∙◌}
use Rattle.std.proofs.lemmas.List.Sums.{sum_by-cons}
use Rattle.std.specs.FinMap as map
use Rattle.std.specs.List.{filter, starts_with, sum_by}
use Rattle.acap_entries.specs.declared.path.Path.{Path}
use Rattle.acap_entries.specs.declared.record.Record.{Record}
use Rattle.acap_search.specs.Gathering.{with_more}
use Rattle.acap_search.specs.Walks.{hits_in, hits_by, count_in, count_by}
use Rattle.acap_search.proofs.CountingLemmas.{count_beneath_is}
use Rattle.acap_search.proofs.FoundLemmas.{gathered_none, gathered_twice, walked}
use Rattle.acap_search.proofs.WalkLemmas.{beneath_is, none_beneath}
use Rattle.acap_search.proofs.searching.add_beneath.Goals as goal

pub returns-then-depth-eq1-clause-count : goal.returns-then-depth-eq1-clause-count
returns-then-depth-eq1-clause-count g c =
    sym (ap (λ datasets. c.args.steps.now + sum_by (count_in c.args.search.now) datasets)
    (none_beneath c.args.search.now.records c.args.search.now.sought.dataset c.args.depth c.if-depth-eq1.true)
    ∙ omega arith)

pub returns-then-depth-eq1-clause-found : goal.returns-then-depth-eq1-clause-found
returns-then-depth-eq1-clause-found g c =
    sym (ap (λ datasets. with_more c.args.found.now (flat_map (hits_in c.args.search.now) datasets))
    (none_beneath c.args.search.now.records c.args.search.now.sought.dataset c.args.depth c.if-depth-eq1.true)
    ∙ gathered_none c.args.found.now)

pub loop-path-init : goal.loop-path-init
loop-path-init g c = record {
  found = refl;
  steps = ap (λ n. c.args.steps.now + n) (count_beneath_is c.args.search.now c.args.depth _
      (c.into_iter-path-iterator.ensures.into_iter_gives
      ∙ (c.entries_beneath-path-items.ensures
      ∙ ap (λ quest. filter (λ e. starts_with nat_eq e.0.dataset quest.sought.dataset) (map.entries quest.records)) c.search.view_is)));
  least = omega arith;
}

pub loop-path-preserved : goal.loop-path-preserved
loop-path-preserved g c =
    let hits = hits_by c.args.search.now c.args.depth in
    let count = count_by c.args.search.now c.args.depth in
    let next : Path × Record = (c.in-Some.path.now, c.in-Some.entry.now) in
    record {
      found = ap (λ g. with_more g (flat_map hits c.next.new.self)) c.in_ok-add_reached.ensures.found
          ∙ (gathered_twice c.loop-path.found (hits next) (flat_map hits c.next.new.self)
          ∙ (ap (λ es. with_more c.loop-path.found (flat_map hits es)) (sym c.in-Some.ensures.steps)
          ∙ c.loop-path.invariant.found));
      steps = omega (arith, ap (sum_by count) c.in-Some.ensures.steps, sum_by-cons count next c.next.new.self, c.in_ok-add_reached.ensures.count, c.loop-path.invariant.steps);
      least = omega (arith, c.in_ok-add_reached.ensures.count, c.loop-path.invariant.least);
    }

pub returns-clause-found : goal.returns-clause-found
returns-clause-found g c =
    let search = c.args.search.now in
    walked _ _ _ _ _ c.in-None.ensures.steps.0 c.loop-path.invariant.found
    ∙ ap (with_more c.args.found.now) (beneath_is search.records search.realm search.user search.sought c.args.depth _
    (c.into_iter-path-iterator.ensures.into_iter_gives
    ∙ (c.entries_beneath-path-items.ensures
    ∙ ap (λ quest. filter (λ e. starts_with nat_eq e.0.dataset quest.sought.dataset) (map.entries quest.records)) c.search.view_is)))
