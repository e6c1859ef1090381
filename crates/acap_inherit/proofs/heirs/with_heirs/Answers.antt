use Rattle.std.proofs.Common.{rules, ◌≡◌, length, arith}
use Rattle.acap_inherit.proofs.HeirLemmas.{stopped, next_level, finished}
use Rattle.acap_inherit.proofs.heirs.with_heirs.Goals as goal

pub returns-then-is_empty : goal.returns-then-is_empty
returns-then-is_empty c =
    let none : length c.in_ok-heirs.heirs.items ≡ 0 = search rules in
    stopped 7 c.loop.counter c.args.links.now.0 c.loop.level.items c.loop.found.0 _ c.in_ok-heirs.heirs.items c.put_among.new.ranked.0 (omega arith) c.in_ok-heirs.ensures c.in_ok-put_among.ensures
    none c.loop.invariant.found

pub loop-preserved : goal.loop-preserved
loop-preserved c = record {
  found = next_level 7 c.loop.counter c.args.links.now.0 c.loop.level.items c.loop.found.0 _ c.in_ok-heirs.heirs.items c.put_among.new.ranked.0 (omega arith) c.in_ok-heirs.ensures
      c.in_ok-put_among.ensures c.loop.invariant.found;
}

pub returns : goal.returns
returns c = finished 7 c.loop.counter c.args.links.now.0 c.loop.level.items c.loop.found.0 _ c.put_among-2.new.ranked.0 (omega arith) c.in_ok-put_among-2.ensures c.loop.invariant.found
