use Rattle.std.proofs.Common.{◌≡◌, ◌++◌, length}
use Rattle.acap_client.specs.Arguments.{data_in}
use Rattle.acap_shell.specs.Rows.{first_texts}
use Rattle.acap_shell.proofs.dumping.add_texts.Given as goal

abbrev pub invariant-texts : goal.invariant-texts
invariant-texts l =
    l.made.items ++ first_texts (data_in l.left) ≡ l.initial.made.items ++ first_texts (data_in l.texts)

abbrev pub decreases-texts : goal.decreases-texts
decreases-texts l = length (data_in l.left)
