use Rattle.std.proofs.Common.{◌≡◌, ◌∷◌, sym, ap, ◌∙◌}
use Rattle.std.specs.FinMap.{is_sorted}
use Rattle.acap_ordmap.proofs.SortedLemmas.{rises_behind}
use Rattle.acap_ordmap.proofs.sorted.ascends.Goals as goal

pub loop-first-preserved : goal.loop-first-preserved
loop-first-preserved g c =
    let whole : c.loop-first.left.now ≡ c.in-Some.first.now ∷ c.in-Some.others.now = c.in-Some.ensures.cases.0 in
    c.loop-first.invariant ∙ ap (is_sorted g.K.Ord.cmp) whole
    ∙ rises_behind g.K.Ord.cmp g.met.K.Ord.total c.in-Some.first.now c.in-Some-first.next.now c.in-Some.others.now (sym c.in-Some-first.ensures.value) (sym c.in-Less.ensures)
