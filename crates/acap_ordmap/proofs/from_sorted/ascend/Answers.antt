use Rattle.std.proofs.Common.{◌≡◌, ◌∷◌, sym, ap, ◌∙◌}
use Rattle.std.specs.FinMap.{is_sorted}
use Rattle.acap_ordmap.specs.Ranks.{units}
use Rattle.acap_ordmap.proofs.RankLemmas.{rises_units}
use Rattle.acap_ordmap.proofs.from_sorted.ascend.Goals as goal

pub loop-first-preserved : goal.loop-first-preserved
loop-first-preserved g c =
    let whole : c.loop-first.left.now ≡ c.in-Some.first.now ∷ c.in-Some.others.now = c.in-Some.ensures.cases.0 in
    c.loop-first.invariant ∙ ap (λ xs. is_sorted g.T.Ord.cmp (units xs)) whole
    ∙ rises_units g.T.Ord.cmp g.met.T.Ord.total c.in-Some.first.now c.in-Some-first.next.now c.in-Some.others.now (sym c.in-Some-first.ensures.value) (sym c.in-Less.ensures)
