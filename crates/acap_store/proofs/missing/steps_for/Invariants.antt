use Rattle.std.proofs.Common.{◌≡◌, length, map}
use Rattle.acap_store.specs.Writing as writing
use Rattle.acap_store.proofs.missing.steps_for.Given as goal

abbrev pub invariant-loop-entry : goal.invariant-loop-entry
invariant-loop-entry l = record {
  steps : writing.put_all (map (writing.step_at l.tree.store.records l.moment) (writing.missing_for l.tree.store.records l.left)) l.writes
      ≡ writing.steps_for l.tree.store.records l.entries l.moment;
  made : writing.put_all (map (writing.step_at l.tree.store.records l.moment) (writing.missing_to l.tree.store.records l.done)) l.writes ≡ l.writes;
}

abbrev pub decreases-loop-entry : goal.decreases-loop-entry
decreases-loop-entry l = length l.left
