use Rattle.std.proofs.Common.{None, ◌+◌, ap, arith, length, refl, subst, sym, ◌∙◌, map}
use Rattle.std.proofs.lemmas.List.{length-map}
use Rattle.acap_search.specs.Gathering.{with_more, with_one}
use Rattle.acap_search.specs.RecordCaches.{AreKept}
use Rattle.acap_search.specs.Views.{found_at, spot_in}
use Rattle.acap_search.specs.Walks.{hits_at}
use Rattle.acap_search.proofs.FoundLemmas.{gathered_next, own_walked}
use Rattle.acap_search.proofs.CacheLemmas.{names_alone, all_kept}
use Rattle.acap_search.proofs.dataset_walk.add_own.Goals as goal

pub loop-path-init : goal.loop-path-init
loop-path-init g c = record {
  found = refl;
  kept = all_kept _ _ _ (c.into_iter-path-iterator.ensures.into_iter_gives ∙ c.requires.all);
  steps = ap (λ n. c.args.steps.now + n)
      (ap length (c.into_iter-path-iterator.ensures.into_iter_gives ∙ c.requires.all)
      ∙ (sym (length-map _ (λ e. e.0.name)) ∙ sym (ap length (names_alone _ _ _ c.requires.plain.0))));
  least = omega arith;
}

pub loop-path-preserved : goal.loop-path-preserved
loop-path-preserved g c =
    let by = c.args.by.now in
    let sought = c.args.sought.now in
    record {
      found = ap (λ g. with_more g (hits_at by sought (map (λ e. e.0.name) c.next.new.self))) c.in_ok-add_at.ensures.found
          ∙ (ap (λ spot. with_more (with_one c.loop-path.found (found_at sought None spot)) (hits_at by sought (map (λ e. e.0.name) c.next.new.self))) c.near-spot.ensures
          ∙ gathered_next (λ name. found_at sought None (spot_in by name)) c.loop-path.found c.in-Some.path.now.name (map (λ e. e.0.name) c.next.new.self)
          ∙ (ap (λ es. with_more c.loop-path.found (hits_at by sought (map (λ e. e.0.name) es))) (sym c.in-Some.ensures.steps)
          ∙ c.loop-path.invariant.found));
      kept = (subst (AreKept by.records by.dataset) c.in-Some.ensures.steps c.loop-path.invariant.kept).1;
      steps = omega (arith, ap length c.in-Some.ensures.steps);
      least = omega arith;
    }

pub returns-clause-found : goal.returns-clause-found
returns-clause-found g c =
    own_walked _ _ _ _ _ _ c.in-None.ensures.steps.0 c.loop-path.invariant.found
    (names_alone _ _ _ c.requires.plain.0 ∙ sym (ap (map (λ e. e.0.name)) (c.into_iter-path-iterator.ensures.into_iter_gives ∙ c.requires.all)))
