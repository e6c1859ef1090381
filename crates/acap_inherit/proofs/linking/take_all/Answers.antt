use Rattle.std.proofs.Common.{◌≡◌, ◌++◌, ◌∷◌, [], arith}
use Rattle.acap_inherit.proofs.IndexLemmas.{without_last}
use Rattle.acap_inherit.proofs.linking.take_all.Goals as goal

pub loop-link-preserved : goal.loop-link-preserved
loop-link-preserved c =
    let all : c.loop-link.taken.items ≡ c.pop.new.self.items ++ c.in-Some.link ∷ [] = cc c.in-Some.ensures.items in
    record {
      links = rw (c.take.ensures.items, ← c.loop-link.invariant.links, all, without_last);
      room = omega (arith, c.take.ensures.room, c.loop-link.invariant.room);
    }
