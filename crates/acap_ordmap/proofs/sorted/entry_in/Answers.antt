use Rattle.std.proofs.Common.{Some, refl, sym, ap, ◌∙◌}
use Rattle.acap_ordmap.proofs.SortedLemmas.{entry_tied, entry_absent}
use Rattle.acap_ordmap.proofs.sorted.entry_in.Goals as goal

pub returns-then-tied : goal.returns-then-tied
returns-then-tied g c =
    let whole = entry_tied g.K.Ord.cmp g.met.K.Ord.total _ _ c.index-entries-at.result c.requires (sym c.place_of-at.ensures.tied ∙ c.if-tied.true) in
    ap Some (c.index-entries-at.is ∙ rw c.place_of-at.ensures.place refl) ∙ sym whole

pub returns-else-tied : goal.returns-else-tied
returns-else-tied g c = sym (entry_absent g.K.Ord.cmp g.met.K.Ord.total _ _ c.requires (sym c.place_of-at.ensures.tied ∙ c.if-tied.false))
