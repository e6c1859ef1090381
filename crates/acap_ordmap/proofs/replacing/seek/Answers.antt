use Rattle.std.proofs.Common.{length, arith, ap}
use Rattle.acap_ordmap.specs.Leaves.{contents}
use Rattle.acap_ordmap.proofs.LeafLemmas.{place_of_leaf}
use Rattle.acap_ordmap.proofs.SortedLemmas.{place_le}
use Rattle.acap_ordmap.proofs.replacing.seek.Goals as goal

pub overflow_add-result : goal.overflow_add-result
overflow_add-result g c =
    let key = g.Q.Probe.key c.args.probe.now in
    let lies = c.find_from-leaf.ensures.lies in
    let most = place_le g.K.Ord.cmp key (contents c.args.leaves.now) in
    let front = ap (λ ls. length (contents ls)) c.split_at.ensures.front in
    omega (arith, most, front, c.count.ensures, lies.place, place_of_leaf g.K.Ord.cmp key _ _ lies.among, c.requires.counted)

pub returns-clause-rank : goal.returns-clause-rank
returns-clause-rank g c =
    let key = g.Q.Probe.key c.args.probe.now in
    let lies = c.find_from-leaf.ensures.lies in
    let front = ap (λ ls. length (contents ls)) c.split_at.ensures.front in
    omega (arith, front, c.count.ensures, lies.place, place_of_leaf g.K.Ord.cmp key _ _ lies.among)
