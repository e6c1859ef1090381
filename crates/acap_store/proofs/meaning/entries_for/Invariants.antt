use Rattle.std.proofs.Common.{◌≡◌, ◌++◌, map, take, drop}
use Rattle.acap_store.specs.Meaning as rule
use Rattle.acap_store.proofs.meaning.entries_for.Given as goal

abbrev pub invariant-loop-entry : goal.invariant-loop-entry
invariant-loop-entry l = l.entry-items ≡ map (rule.entry_for l.user) (take l.entry-index l.fn.entries) ++ drop l.entry-index l.fn.entries
