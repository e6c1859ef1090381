use Rattle.std.proofs.Common.{◌≡◌, ◌++◌}
use Rattle.acap_inherit.proofs.heirs.datasets_written.Given as goal

abbrev pub invariant-loop-dataset : goal.invariant-loop-dataset
invariant-loop-dataset l = record { datasets : l.datasets.items ++ l.dataset-iterator ≡ l.initial.dataset-iterator }
