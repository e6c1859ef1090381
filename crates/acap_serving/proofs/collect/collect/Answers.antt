use Rattle.std.proofs.Common.{rules, arith, ◌<◌, length, subst, sym}
use Rattle.acap_serving.proofs.Collected.{take_on}
use Rattle.acap_serving.proofs.collect.collect.Goals as goal

pub loop-preserved : goal.loop-preserved
loop-preserved g c = record {
  some = search rules;
  count = omega (arith, c.take_over.ensures.count, c.loop.invariant.count);
  room = omega (arith, c.take_over.ensures.room, c.loop.invariant.room);
  ends = λ none all len some is.
      take_on none all c.loop.counter _ _ _ _ some (subst (λ n. c.loop.counter < n) (sym len) c.loop-test.true) (c.loop.invariant.ends none all len some is)
      (λ before last there are. c.take_over.ensures.back before last there (omega (arith, c.loop.invariant.count, c.loop.invariant.room, c.loop-test.true)) are);
}
