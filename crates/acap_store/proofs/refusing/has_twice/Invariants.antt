use Rattle.std.proofs.Common.{◌≡◌, false, take}
use Rattle.acap_commands.specs.EntryOrder.{Orders}
use Rattle.acap_store.specs.Refusing as rule
use Rattle.acap_store.proofs.refusing.has_twice.Given as goal

abbrev pub invariant-loop-at : goal.invariant-loop-at
invariant-loop-at l = record {
  order : Orders l.order (take l.at l.entries);
  once : rule.has_twice (take l.at l.entries) ≡ false;
}
