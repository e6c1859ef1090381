use Rattle.std.proofs.Common.{rules, arith, refl, ap, false, length}
use Rattle.acap_serving.proofs.Collected.{passed}
use Rattle.acap_serving.proofs.collect.put_back.Goals as goal

pub loop-pass-preserved : goal.loop-pass-preserved
loop-pass-preserved g c =
    let took = c.in-Some.ensures.steps.0 in
    let len = ap length took in
    record {
      seats =
          passed (λ place. place.pass.seat) (λ pass. pass.seat) c.loop-pass.passes.items c.put.new.list.items c.loop-pass.pass-iterator.rest.items c.next.new.self.rest.items _ c.in-Some.pass _
          (c.put.ensures.items (omega (arith, len, c.loop-pass.invariant.room))) took refl c.loop-pass.invariant.seats;
      owes =
          passed (λ place. place.owes_leave) (λ _. false) c.loop-pass.passes.items c.put.new.list.items c.loop-pass.pass-iterator.rest.items c.next.new.self.rest.items _ c.in-Some.pass _
          (c.put.ensures.items (omega (arith, len, c.loop-pass.invariant.room))) took refl c.loop-pass.invariant.owes;
      room = omega (arith, len, c.loop-pass.invariant.room, c.put.ensures.len, c.put.ensures.room);
    }
