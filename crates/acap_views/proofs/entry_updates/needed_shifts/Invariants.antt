use Rattle.std.proofs.Common.{◌≡◌, ◌+◌, ◌≤◌, ◌++◌, length, map as each}
use Rattle.acap_views.specs.ContextViews.{shift_in}
use Rattle.acap_views.specs.EntryUpdates.{until_full}
use Rattle.acap_views.proofs.entry_updates.needed_shifts.Given as goal

abbrev pub invariant-loop-path : goal.invariant-loop-path
invariant-loop-path g l = record {
  field : l.field ≡ l.fn.field;
  shifts : l.shifts.items ++ until_full l.watch.present l.count (each (shift_in l.fn.field) l.path-iterator.rest.items)
      ≡ until_full l.watch.present (length l.watch.pending) (each (shift_in l.fn.field) l.fn.paths);
  count : l.steps + length l.path-iterator.rest.items ≡ l.fn.steps + length l.fn.paths;
  least : l.fn.steps ≤ l.steps;
}
