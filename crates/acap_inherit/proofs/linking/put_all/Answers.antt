use Rattle.std.proofs.Common.{◌≡◌, ◌++◌, ◌∷◌, [], arith}
use Rattle.acap_inherit.proofs.IndexLemmas.{with_last}
use Rattle.acap_inherit.proofs.linking.put_all.Goals as goal

pub loop-link-preserved : goal.loop-link-preserved
loop-link-preserved c =
    let all : c.loop-link.put.items ≡ c.pop.new.self.items ++ c.in-Some.link ∷ [] = cc c.in-Some.ensures.items in
    record {
      links = rw (c.put.ensures.items, ← c.loop-link.invariant.links, all, with_last);
      room = omega (arith, c.in-Some.ensures.cases, c.put.ensures.room, c.loop-link.invariant.room);
    }
