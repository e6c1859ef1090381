use Rattle.std.proofs.Common.{◌≡◌}
use Rattle.acap_store.specs.Writing.{with_values, with_lists}
use Rattle.acap_store.proofs.writing.give_items.Given as goal

abbrev pub invariant-loop-item : goal.invariant-loop-item
invariant-loop-item l = record {
  cells : l.cells ≡ with_values l.user l.path l.fn.cells l.yielded;
  acls : l.acls ≡ with_lists l.fn.acls l.yielded;
}
