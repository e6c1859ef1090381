use Rattle.std.proofs.Common.{◌++◌, ◌∷◌, [], arith, sym, ◌∙◌, ap}
use Rattle.std.proofs.lemmas.List.{map_more}
use Rattle.acap_search.specs.Walks.{match_in}
use Rattle.acap_search.proofs.match_rows.tell_all.Goals as goal

pub loop-stand-preserved : goal.loop-stand-preserved
loop-stand-preserved c = record {
  rows =
      c.in_ok-push.ensures.items
      ∙ ((λ i. c.loop-stand.invariant.rows i ++ (c.in_ok-tell_there.ensures.told ∙ ap (λ m. (match_in c.args.search.now m.path).row) c.stand-item.is) i ∷ [])
      ∙ sym (map_more (λ m. (match_in c.args.search.now m.path).row) c.args.stands.now c.loop-stand.stand-index _ (omega (arith, c.loop-stand-test.true))));
  here = c.in_ok-tell_there.ensures.here;
}
