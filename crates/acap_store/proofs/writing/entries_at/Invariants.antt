use Rattle.std.proofs.Common.{◌≡◌, map}
use Rattle.acap_store.specs.Writing.{entry_at}
use Rattle.acap_store.proofs.writing.entries_at.Given as goal

abbrev pub invariant-loop-entry : goal.invariant-loop-entry
invariant-loop-entry l = l.made.items ≡ map (entry_at l.tree.store.records l.user l.steps l.moment) l.yielded
