use Rattle.std.proofs.Common.{take}
use Rattle.std.specs.Option.{option_copied}
use Rattle.acap_inherit.specs.Merging.{IsLeast}
use Rattle.acap_inherit.proofs.merging.least_of.Given as goal

abbrev pub invariant-loop-range : goal.invariant-loop-range
invariant-loop-range l = IsLeast (option_copied l.least) (take l.range-index l.ranges)
