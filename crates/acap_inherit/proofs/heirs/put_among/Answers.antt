use Rattle.std.proofs.Common.{◌≡◌, ◌++◌, ◌∷◌, []}
use Rattle.acap_inherit.proofs.HeirLemmas.{among_last}
use Rattle.acap_inherit.proofs.heirs.put_among.Goals as goal

pub loop-item-preserved : goal.loop-item-preserved
loop-item-preserved g c =
    let all : c.loop-item.items.items ≡ c.pop.new.self.items ++ c.in-Some.item ∷ [] = cc c.in-Some.ensures.items in
    record { ranked = rw (c.put.ensures.items, c.in_ok-reserve.ensures.items, ← c.loop-item.invariant.ranked, all, among_last) }
