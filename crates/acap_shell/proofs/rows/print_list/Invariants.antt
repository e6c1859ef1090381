use Rattle.std.proofs.Common.{◌≡◌, ◌++◌, length}
use Rattle.acap_client.specs.Arguments.{data_in}
use Rattle.acap_shell.specs.Rows.{list_rows}
use Rattle.acap_shell.proofs.rows.print_list.Given as goal

abbrev pub invariant-pairs : goal.invariant-pairs
invariant-pairs l =
    l.out.items ++ list_rows l.fn.form l.entry (data_in l.left) ≡ l.initial.out.items ++ list_rows l.fn.form l.entry (data_in l.pairs)

abbrev pub decreases-pairs : goal.decreases-pairs
decreases-pairs l = length (data_in l.left)
