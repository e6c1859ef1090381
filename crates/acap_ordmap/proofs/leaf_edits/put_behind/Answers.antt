use Rattle.std.proofs.Common.{[], ◌≤◌, length, ap, sym, arith}
use Rattle.acap_ordmap.proofs.WeightLemmas.{weight_push}
use Rattle.acap_ordmap.proofs.LeafLemmas.{put_in_behind, behind_none, push_filled, joined_push}
use Rattle.acap_ordmap.proofs.leaf_edits.put_behind.Goals as goal

pub returns-clause-items : goal.returns-clause-items
returns-clause-items g c =
    rw (c.push.ensures.items, c.unwrap.ensures, joined_push, c.put.ensures.value, c.clear.ensures, put_in_behind g.K.Ord.cmp c.args.key c.args.value [] (behind_none g.K.Ord.cmp c.args.key))
    (sym (put_in_behind g.K.Ord.cmp c.args.key c.args.value _ c.requires.behind))

pub returns-clause-filled : goal.returns-clause-filled
returns-clause-filled g c = rw (c.push.ensures.items, c.unwrap.ensures) (push_filled _ _ c.requires.filled c.put.ensures.filled)

pub returns-clause-weight : goal.returns-clause-weight
returns-clause-weight g c =
    let few : length c.put.new.self ≤ 16 = omega (arith, c.put.ensures.by_one, ap length c.clear.ensures) in
    rw (c.push.ensures.items, c.unwrap.ensures) (weight_push c.args.leaves.now.items c.put.new.self c.requires.full few)
