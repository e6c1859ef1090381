use Rattle.std.proofs.Common.{◌≡◌, ◌++◌, take, flat_map}
use Rattle.acap_shell.specs.Escapes.{escape_column}
use Rattle.acap_shell.proofs.escapes.escape_columns.Given as goal

abbrev pub invariant-loop-c : goal.invariant-loop-c
invariant-loop-c l = l.out.items ≡ l.initial.out.items ++ flat_map escape_column (take l.c-index l.octets)
