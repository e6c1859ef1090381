use Rattle.std.proofs.Common.{◌≡◌, ◌≤◌, ◌<◌, ◌-◌, length, true}
use Rattle.acap_entries.specs.Orders.{octets_cmp}
use Rattle.acap_ordmap.specs.Sorted.{place, is_tied}
use Rattle.acap_client.specs.Placing.{keyed}
use Rattle.acap_client.proofs.by_name.place_of.Given as goal

abbrev pub invariant-loop-low : goal.invariant-loop-low
invariant-loop-low l = record {
  lower : l.low ≤ place octets_cmp l.entry (keyed l.rows);
  upper : place octets_cmp l.entry (keyed l.rows) ≤ l.high;
  within : l.high ≤ length l.rows;
  tied : is_tied octets_cmp l.entry (keyed l.rows) ≡ true → place octets_cmp l.entry (keyed l.rows) < l.high;
}

abbrev pub decreases-loop-low : goal.decreases-loop-low
decreases-loop-low l = l.high - l.low
