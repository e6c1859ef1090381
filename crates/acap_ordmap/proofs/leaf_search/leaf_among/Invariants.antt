use Rattle.std.proofs.Common.{◌≤◌, ◌-◌}
use Rattle.acap_ordmap.specs.Leaves.{IsAmong}
use Rattle.acap_ordmap.proofs.leaf_search.leaf_among.Given as goal

abbrev pub invariant-loop-high : goal.invariant-loop-high
invariant-loop-high g l = record {
  among : IsAmong g.K.Ord.cmp (g.Q.Probe.key l.probe) l.leaves l.low l.high;
  from : l.fn.low ≤ l.low;
  until : l.high ≤ l.fn.high;
}

abbrev pub decreases-loop-high : goal.decreases-loop-high
decreases-loop-high g l = l.high - l.low
