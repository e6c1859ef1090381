use Rattle.std.proofs.Common.{None, ap, arith, length, sym, ◌∙◌}
use Rattle.acap_search.specs.Gathering.{with_more}
use Rattle.acap_search.specs.Views.{found_at, spot_in}
use Rattle.acap_search.specs.Walks.{hits_at}
use Rattle.acap_search.proofs.FoundLemmas.{gathered_next}
use Rattle.acap_search.proofs.dataset_walk.add_far.Goals as goal

pub loop-name-preserved : goal.loop-name-preserved
loop-name-preserved g c =
    let by = c.args.by.now in
    let sought = c.args.sought.now in
    record {
      found = ap (λ g. with_more g (hits_at by sought c.next.new.self)) c.in_ok-add_near.ensures.found
          ∙ (gathered_next (λ name. found_at sought None (spot_in by name)) c.loop-name.found c.in-Some.name.now c.next.new.self
          ∙ (ap (λ names. with_more c.loop-name.found (hits_at by sought names)) (sym c.in-Some.ensures.steps)
          ∙ c.loop-name.invariant.found));
      steps = omega (arith, ap length c.in-Some.ensures.steps);
      least = omega arith;
    }
