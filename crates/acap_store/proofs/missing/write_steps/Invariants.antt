use Rattle.std.proofs.Common.{◌≡◌, true, length, map}
use Rattle.acap_entries.specs.Names.{is_closed_dataset}
use Rattle.acap_store.specs.Writing as writing
use Rattle.acap_store.proofs.missing.write_steps.Given as goal

abbrev pub invariant-loop-parent : goal.invariant-loop-parent
invariant-loop-parent l = record {
  formed : is_closed_dataset l.way ≡ true;
  steps :
      writing.put_all (map (writing.step_at l.tree.store.records l.moment) (writing.missing_to l.tree.store.records l.way)) l.writes
      ≡ writing.put_all (map (writing.step_at l.tree.store.records l.moment) (writing.missing_to l.tree.store.records l.dataset)) l.fn.writes;
}

abbrev pub decreases-loop-parent : goal.decreases-loop-parent
decreases-loop-parent l = length l.way
