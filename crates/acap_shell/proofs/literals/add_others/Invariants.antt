use Rattle.std.proofs.Common.{◌≡◌, ◌++◌, take, flat_map}
use Rattle.acap_shell.specs.Literals.{spaced}
use Rattle.acap_shell.proofs.literals.add_others.Given as goal

abbrev pub invariant-loop-value : goal.invariant-loop-value
invariant-loop-value l = l.out.items ≡ l.initial.out.items ++ flat_map spaced (take l.value-index l.values)
