use Rattle.std.proofs.Common.{◌≡◌, ◌+◌, ◌≤◌, ◌++◌, length, map as each}
use Rattle.std.specs.List.{filter}
use Rattle.acap_views.specs.ContextViews.{shift_in}
use Rattle.acap_views.specs.EntryUpdates.{has_changed, until_full}
use Rattle.acap_views.proofs.changed_entries.changing_shifts.Given as goal

abbrev pub invariant-loop-path : goal.invariant-loop-path
invariant-loop-path g l = record {
  field : l.field ≡ l.fn.field;
  hits : l.hits ≡ l.watch.present;
  shifts : l.shifts.items ++ until_full l.watch.present l.count (filter (has_changed l.watch.present) (each (shift_in l.fn.field) l.path-iterator.rest.items))
      ≡ until_full l.watch.present (length l.watch.pending) (filter (has_changed l.watch.present) (each (shift_in l.fn.field) l.fn.paths));
  count : l.steps + length l.path-iterator.rest.items ≡ l.fn.steps + length l.fn.paths;
  least : l.fn.steps ≤ l.steps;
}
