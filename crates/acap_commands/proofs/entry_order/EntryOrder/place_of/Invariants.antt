use Rattle.std.proofs.Common.{◌-◌, ◌≡◌, ◌<◌, ◌≤◌, length, true}
use Rattle.acap_ordmap.specs.Sorted.{place, is_tied}
use Rattle.acap_entries.specs.Store.{path_cmp}
use Rattle.acap_commands.specs.EntryOrder.{places_by_path}
use Rattle.acap_commands.proofs.entry_order.EntryOrder.place_of.Given as goal

abbrev pub invariant-loop-low : goal.invariant-loop-low
invariant-loop-low l = record {
  lower : l.low ≤ place path_cmp l.path (places_by_path l.entries l.self);
  upper : place path_cmp l.path (places_by_path l.entries l.self) ≤ l.high;
  within : l.high ≤ length l.self;
  middle : l.low < l.high → (l.low ≤ l.middle) × (l.middle < l.high);
  tied : is_tied path_cmp l.path (places_by_path l.entries l.self) ≡ true → place path_cmp l.path (places_by_path l.entries l.self) < l.high;
}

abbrev pub decreases-loop-low : goal.decreases-loop-low
decreases-loop-low l = l.high - l.low
