use Rattle.std.proofs.Common.{◌≡◌, ◌++◌, length, flat_map}
use Rattle.acap_client.specs.Arguments.{data_in}
use Rattle.acap_shell.specs.Rows.{first_texts, pair_row}
use Rattle.acap_shell.proofs.rows.print_pairs.Given as goal

abbrev pub invariant-pairs : goal.invariant-pairs
invariant-pairs l =
    l.out.items ++ flat_map (pair_row l.fn.form) (first_texts (data_in l.left))
    ≡ l.initial.out.items ++ flat_map (pair_row l.fn.form) (first_texts (data_in l.pairs))

abbrev pub decreases-pairs : goal.decreases-pairs
decreases-pairs l = length (data_in l.left)
