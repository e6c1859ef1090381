use Rattle.acap_grammar.specs.Spelling.{entry}
use Rattle.acap_client.proofs.Each.{IsSoFar}
use Rattle.acap_client.proofs.storing.entries.Given as goal

abbrev pub invariant-loop-item : goal.invariant-loop-item
invariant-loop-item l = IsSoFar entry l.entries l.initial.writing l.item-index l.writing
