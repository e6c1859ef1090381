use Rattle.std.proofs.Common.{◌≡◌, ◌++◌}
use Rattle.acap_store.proofs.deleting.list_names.Given as goal

abbrev pub invariant-loop-name : goal.invariant-loop-name
invariant-loop-name l = l.made ++ l.name-iterator ≡ l.initial.name-iterator
