use Rattle.std.proofs.Common.{rules, arith, ◌≡◌, All, sym, ap, ◌∙◌}
use Rattle.std.proofs.lemmas.List.{length-map}
use Rattle.acap_serving.specs.Dealing.{turned}
use Rattle.acap_serving.specs.Devices.{IsReady}
use Rattle.acap_serving.specs.Ends.{between}
use Rattle.acap_serving.proofs.Collected.{all_but, fill_on, map_but}
use Rattle.acap_serving.proofs.seats.fill.Goals as goal

pub lent_session_of-requires-clause-untold : goal.lent_session_of-requires-clause-untold
lent_session_of-requires-clause-untold g c =
    (all_but (λ conn. IsReady (g.W.Wire.told conn.wire) (g.O.Source.told conn.source)) c.loop.conns.items c.pop-in-loop.new.self.items c.pop-in-loop.result c.unwrap-conn.result
    c.pop-in-loop.ensures.items c.unwrap-conn.ensures c.loop.invariant.untold).1

pub lent_session_of-requires-clause-host : goal.lent_session_of-requires-clause-host
lent_session_of-requires-clause-host g c =
    (all_but (λ seat_bell. seat_bell.host ≡ c.args.env.now.host.now) c.loop.seat_bells.items c.pop-in-loop-2.new.self.items c.pop-in-loop-2.result c.unwrap-seat_bell.result
    c.pop-in-loop-2.ensures.items c.unwrap-seat_bell.ensures c.loop.invariant.hosts).1

pub deal-requires-clause-room : goal.deal-requires-clause-room
deal-requires-clause-room g c = λ k d h. omega (arith, c.loop.invariant.room k d h, c.loop.invariant.conns, c.loop-test.true)

pub loop-preserved : goal.loop-preserved
loop-preserved g c =
    let taken = all_but (λ conn. IsReady (g.W.Wire.told conn.wire) (g.O.Source.told conn.source)) c.loop.conns.items c.pop-in-loop.new.self.items c.pop-in-loop.result c.unwrap-conn.result
    c.pop-in-loop.ensures.items c.unwrap-conn.ensures c.loop.invariant.untold in
    let hosts = all_but (λ seat_bell. seat_bell.host ≡ c.args.env.now.host.now) c.loop.seat_bells.items c.pop-in-loop-2.new.self.items c.pop-in-loop-2.result c.unwrap-seat_bell.result
    c.pop-in-loop-2.ensures.items c.unwrap-seat_bell.ensures c.loop.invariant.hosts in
    let p = rw c.unwrap-pass.ensures at c.pop.ensures.cases in
    let q = rw c.unwrap-conn.ensures at c.pop-in-loop.ensures.cases in
    let r = rw c.unwrap-seat_bell.ensures at c.pop-in-loop-2.ensures.cases in
    let us = map_but (λ conn. conn.user) c.loop.conns.items c.pop-in-loop.new.self.items c.pop-in-loop.result c.unwrap-conn.result c.pop-in-loop.ensures.items c.unwrap-conn.ensures in
    let ss = map_but (λ pass. pass.seat) c.loop.passes.items c.pop.new.self.items c.pop.result c.unwrap-pass.result c.pop.ensures.items c.unwrap-pass.ensures in
    record {
      conns = omega (arith, c.loop.invariant.conns, q);
      passes = omega (arith, c.loop.invariant.passes, p, q);
      seat_bells = omega (arith, c.loop.invariant.seat_bells, q, r);
      untold = taken.0;
      hosts = hosts.0;
      some = c.deal.ensures.len ∙ c.loop.invariant.some;
      room = c.deal.ensures.room c.pop-in-loop.new.self.len (λ k d h. omega (arith, c.loop.invariant.room k d h, q));
      dealt =
          fill_on _ _ _ _ _ _ _ _ _ us ss
          (omega (arith, length-map c.pop-in-loop.new.self.items (λ conn. conn.user), length-map c.pop.new.self.items (λ pass. pass.seat), c.pop.new.self.ok, c.pop-in-loop.new.self.ok, c.loop.invariant.passes, p, q))
          (c.deal.ensures.dealt ∙ ap (turned _) c.lent_session_of.ensures) ∙ c.loop.invariant.dealt;
    }
