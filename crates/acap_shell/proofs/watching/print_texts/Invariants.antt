use Rattle.std.proofs.Common.{◌≡◌, ◌++◌, length, flat_map}
use Rattle.acap_client.specs.Arguments.{data_in}
use Rattle.acap_shell.specs.Rows.{first_texts, cell}
use Rattle.acap_shell.proofs.watching.print_texts.Given as goal

abbrev pub invariant-texts : goal.invariant-texts
invariant-texts l =
    l.out.items ++ flat_map (cell l.fn.form) (first_texts (data_in l.left))
    ≡ l.initial.out.items ++ flat_map (cell l.fn.form) (first_texts (data_in l.texts))

abbrev pub decreases-texts : goal.decreases-texts
decreases-texts l = length (data_in l.left)
