use Rattle.std.proofs.Common.{◌≡◌, ◌++◌, length}
use Rattle.acap_client.specs.Arguments.{data_in}
use Rattle.acap_shell.specs.Dumping.{all_items}
use Rattle.acap_shell.proofs.dumping.add_triples.Given as goal

abbrev pub invariant-triples : goal.invariant-triples
invariant-triples l =
    l.made.items ++ all_items (data_in l.left) ≡ l.initial.made.items ++ all_items (data_in l.triples)

abbrev pub decreases-triples : goal.decreases-triples
decreases-triples l = length (data_in l.left)
