use Rattle.std.proofs.Common.{◌≡◌, ◌∷◌, sym, ap, ◌∙◌}
use Rattle.acap_store.specs.Rising.{rising}
use Rattle.acap_store.proofs.TwiceLemmas.{rises_behind_first}
use Rattle.acap_store.proofs.refusing.ascend.Goals as goal

pub loop-first-preserved : goal.loop-first-preserved
loop-first-preserved c =
    let whole : c.loop-first.left.now ≡ c.in-Some.first.now ∷ c.in-Some.others.now = c.in-Some.ensures.cases.0 in
    c.loop-first.invariant ∙ ap rising whole
    ∙ rises_behind_first c.in-Some.first.now c.in-Some-first.next.now c.in-Some.others.now (sym c.in-Some-first.ensures.value) (sym c.in-Less.ensures)
