use Rattle.acap_grammar.specs.Spelling.{string}
use Rattle.acap_client.proofs.Each.{IsSoFar}
use Rattle.acap_client.proofs.listing.values.Given as goal

abbrev pub invariant-loop-value : goal.invariant-loop-value
invariant-loop-value l = IsSoFar string l.values l.initial.writing l.value-index l.writing
