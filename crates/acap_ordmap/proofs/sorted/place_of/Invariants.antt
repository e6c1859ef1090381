use Rattle.std.proofs.Common.{◌≡◌, ◌≤◌, ◌<◌, ◌-◌, length, true}
use Rattle.acap_ordmap.specs.Sorted.{place, is_tied}
use Rattle.acap_ordmap.proofs.sorted.place_of.Given as goal

abbrev pub invariant-loop-low : goal.invariant-loop-low
invariant-loop-low g l = let key = g.Q.Probe.key l.probe in record {
  lower : l.low ≤ place g.K.Ord.cmp key l.entries;
  upper : place g.K.Ord.cmp key l.entries ≤ l.high;
  within : l.high ≤ length l.entries;
  tied : is_tied g.K.Ord.cmp key l.entries ≡ true → place g.K.Ord.cmp key l.entries < l.high;
}

abbrev pub decreases-loop-low : goal.decreases-loop-low
decreases-loop-low g l = l.high - l.low
