use Rattle.std.proofs.Common.{Some}
use Rattle.acap_serving.proofs.Collected.{ended_of, one_more}
use Rattle.acap_serving.proofs.collect.take_over.Goals as goal

pub returns-in-Some-into_over-clause-back : goal.returns-in-Some-into_over-clause-back
returns-in-Some-into_over-clause-back g c before last some room is =
    let back = rw c.in-Some.is at c.take_back.ensures.back before (Some last) some is in
    let over = rw c.in-Some-into_over.is at c.into_over.ensures.over in
    let task = rw c.in-Some-into_over.is at c.into_over.ensures.task in (
      one_more (λ o. (o.running.parties, g.D.Desk.seat o.running.desk)) _ _ _ last (c.put.ensures.items room)
          (ended_of (λ o. (o.running.parties, g.D.Desk.seat o.running.desk)) (λ r. (r.parties, g.D.Desk.seat r.desk)) _ _ _ last back.0 over task),
      back.1,
    )
