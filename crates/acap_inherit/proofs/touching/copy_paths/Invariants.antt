use Rattle.std.proofs.Common.{◌≡◌, ◌++◌}
use Rattle.acap_inherit.proofs.touching.copy_paths.Given as goal

abbrev pub invariant-loop-path : goal.invariant-loop-path
invariant-loop-path l = record { made : l.made ++ l.path-iterator ≡ l.initial.path-iterator }
