use Rattle.std.proofs.Common.{◌≡◌, ◌++◌, length, flat_map}
use Rattle.acap_client.specs.Arguments.{data_in}
use Rattle.acap_shell.specs.Rows.{first_texts, row}
use Rattle.acap_shell.proofs.rows.print_texts.Given as goal

abbrev pub invariant-texts : goal.invariant-texts
invariant-texts l =
    l.out.items ++ flat_map (row l.place.form l.place.entry.now l.place.attribute.now) (first_texts (data_in l.left))
    ≡ l.initial.out.items ++ flat_map (row l.place.form l.place.entry.now l.place.attribute.now) (first_texts (data_in l.texts))

abbrev pub decreases-texts : goal.decreases-texts
decreases-texts l = length (data_in l.left)
