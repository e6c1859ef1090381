use Rattle.std.proofs.Common.{length, arith, ap}
use Rattle.acap_ordmap.specs.Leaves.{contents}
use Rattle.acap_ordmap.proofs.SortedLemmas.{place_le}
use Rattle.acap_ordmap.proofs.counting.count_before.Goals as goal

pub count-requires : goal.count-requires
count-requires g c =
    let most = place_le g.K.Ord.cmp (g.Q.Probe.key c.args.probe.now) (contents c.args.leaves.now) in
    rw c.split_at.ensures.front (omega (arith, most, c.place_among-at.ensures.place, c.requires.counted))

pub overflow_add-result : goal.overflow_add-result
overflow_add-result g c =
    let most = place_le g.K.Ord.cmp (g.Q.Probe.key c.args.probe.now) (contents c.args.leaves.now) in
    let front = ap (λ ls. length (contents ls)) c.split_at.ensures.front in
    omega (arith, most, front, c.count.ensures, c.place_among-at.ensures.place, c.requires.counted)

pub returns : goal.returns
returns g c =
    let front = ap (λ ls. length (contents ls)) c.split_at.ensures.front in
    omega (arith, front, c.count.ensures, c.place_among-at.ensures.place)
