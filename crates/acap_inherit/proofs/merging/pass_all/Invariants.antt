use Rattle.std.proofs.Common.{◌≡◌, ◌++◌, map, take, drop}
use Rattle.acap_inherit.specs.Merging.{past_name}
use Rattle.acap_inherit.proofs.merging.pass_all.Given as goal

abbrev pub invariant-loop-range : goal.invariant-loop-range
invariant-loop-range l = l.ranges ≡ map (past_name l.name) (take l.range-index l.fn.ranges) ++ drop l.range-index l.fn.ranges
