use Rattle.std.proofs.Common.{suc, ◌∷◌, ◌+◌, arith, sym, ◌∙◌, ap, drop, map}
use Rattle.std.proofs.lemmas.List.{at_drop_more}
use Rattle.std.specs.Option.{option_copied}
use Rattle.acap_search.specs.Gathering.{with_one}
use Rattle.acap_search.specs.Walks.{sight_by}
use Rattle.acap_search.specs.Within.{tuple_within, tuple_at}
use Rattle.acap_search.proofs.CursorLemmas.{all_looked, none_shown, one_looked}
use Rattle.acap_search.proofs.context.find_among.Goals as goal

pub loop-count-preserved : goal.loop-count-preserved
loop-count-preserved g c =
    let quest = c.args.search.now in
    let count = c.loop-count.count in
    let path = c.hit.inside.now.path in
    record {
      found = one_looked (tuple_within (sight_by quest) quest.sought) (suc count) _ path _ _ c.loop-count.found _ _ (omega arith)
          (at_drop_more (map (λ hit. hit.now.path)) c.args.shown.now count c.index-shown-count.result (omega (arith, c.loop-count-test.true))
          ∙ ap (λ hit. hit.now.path ∷ map (λ other. other.now.path) (drop (count + 1) c.args.shown.now)) (sym c.index-shown-count.is ∙ sym c.hit.view_is))
          c.loop-count.invariant.found
          (c.in_ok-add_found.ensures.found
          ∙ ap (λ place. with_one c.loop-count.found (tuple_at (sight_by quest) quest.sought place path)) c.position_behind-place.ensures);
      here = c.in_ok-add_found.ensures.here;
      steps = omega (arith, c.in_ok-add_found.ensures.count, c.loop-count.invariant.steps);
    }

pub returns-in_default-clause-found : goal.returns-in_default-clause-found
returns-in_default-clause-found g c = none_shown c.args.search.now c.args.none c.args.shown.now (sym c.first.ensures.value ∙ ap option_copied c.in_default.is)

pub returns-clause-found : goal.returns-clause-found
returns-clause-found g c =
    let quest = c.args.search.now in
    all_looked (tuple_within (sight_by quest) quest.sought) (suc c.loop-count.count) c.loop-count.count c.args.shown.now c.loop-count.found _
    (omega (arith, c.loop-count-test.false)) c.loop-count.invariant.found
