use Rattle.std.proofs.Common.{sym, ◌∙◌}
use Rattle.acap_ordmap.proofs.SortedLemmas.{found_tied, found_absent}
use Rattle.acap_ordmap.proofs.sorted.lookup.Goals as goal

pub returns-then-tied : goal.returns-then-tied
returns-then-tied g c =
    rw c.place_of-at.ensures.place (sym (found_tied g.K.Ord.cmp g.met.K.Ord.total _ _ _ c.requires (sym c.place_of-at.ensures.tied ∙ c.if-tied.true)))

pub returns-else-tied : goal.returns-else-tied
returns-else-tied g c = sym (found_absent g.K.Ord.cmp g.met.K.Ord.total _ _ c.requires (sym c.place_of-at.ensures.tied ∙ c.if-tied.false))
