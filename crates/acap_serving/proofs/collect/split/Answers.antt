use Rattle.std.proofs.Common.{rules, arith, refl, ap, length, sym, ◌∙◌}
use Rattle.acap_serving.proofs.Collected.{all_passed, passed}
use Rattle.acap_serving.proofs.collect.split.Goals as goal

pub loop-over-preserved : goal.loop-over-preserved
loop-over-preserved g c =
    let took = c.in-Some.ensures.steps.0 in
    let len = ap length took in
    record {
      ends =
          passed (λ end. end.running.parties) (λ over. over.running.parties) c.loop-over.done.items c.put.new.list.items c.loop-over.over-iterator.rest.items c.next.new.self.rest.items _ c.in-Some.over _
          (c.put.ensures.items (omega (arith, len, c.loop-over.invariant.done))) took c.into_record-end.ensures.parties c.loop-over.invariant.ends;
      seats =
          passed (λ place. place.pass.seat) (λ over. over.running.desk.pass.seat) c.loop-over.passes.items c.put-in-loop-over.new.list.items c.loop-over.over-iterator.rest.items c.next.new.self.rest.items _ c.in-Some.over _
          (c.put-in-loop-over.ensures.items (omega (arith, len, c.loop-over.invariant.passes))) took (ap (λ p. p.seat) c.into_record-end.ensures.place.0) c.loop-over.invariant.seats;
      owes =
          passed (λ place. place.owes_leave) (λ over. over.running.desk.owes_leave) c.loop-over.passes.items c.put-in-loop-over.new.list.items c.loop-over.over-iterator.rest.items c.next.new.self.rest.items _ c.in-Some.over _
          (c.put-in-loop-over.ensures.items (omega (arith, len, c.loop-over.invariant.passes))) took c.into_record-end.ensures.place.1 c.loop-over.invariant.owes;
      owed =
          passed (λ end. end.running.desk.owes_leave) (λ over. over.running.desk.owes_leave) c.loop-over.done.items c.put.new.list.items c.loop-over.over-iterator.rest.items c.next.new.self.rest.items _ c.in-Some.over _
          (c.put.ensures.items (omega (arith, len, c.loop-over.invariant.done))) took c.into_record-end.ensures.place.2 c.loop-over.invariant.owed;
      done = omega (arith, len, c.loop-over.invariant.done, c.put.ensures.len, c.put.ensures.room);
      passes = omega (arith, len, c.loop-over.invariant.passes, c.put-in-loop-over.ensures.len, c.put-in-loop-over.ensures.room);
      len = omega (arith, len, c.loop-over.invariant.len, c.put-in-loop-over.ensures.len);
      kept = omega (arith, c.loop-over.invariant.kept, c.put-in-loop-over.ensures.room);
    }

pub returns-clause-ends : goal.returns-clause-ends
returns-clause-ends g c = all_passed _ _ _ _ _ (omega (arith, c.loop-over.over-iterator.rest.ok, (rw c.in-None.is at c.next.ensures.steps).0)) c.loop-over.invariant.ends

pub returns-clause-seats : goal.returns-clause-seats
returns-clause-seats g c = all_passed _ _ _ _ _ (omega (arith, c.loop-over.over-iterator.rest.ok, (rw c.in-None.is at c.next.ensures.steps).0)) c.loop-over.invariant.seats

pub returns-clause-owes : goal.returns-clause-owes
returns-clause-owes g c = all_passed _ _ _ _ _ (omega (arith, c.loop-over.over-iterator.rest.ok, (rw c.in-None.is at c.next.ensures.steps).0)) c.loop-over.invariant.owes

pub returns-clause-owed : goal.returns-clause-owed
returns-clause-owed g c = all_passed _ _ _ _ _ (omega (arith, c.loop-over.over-iterator.rest.ok, (rw c.in-None.is at c.next.ensures.steps).0)) c.loop-over.invariant.owed
