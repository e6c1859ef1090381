use Rattle.acap_grammar.specs.Spelling.{string}
use Rattle.acap_client.proofs.Each.{IsSoFar}
use Rattle.acap_client.proofs.listing.contexts.Given as goal

abbrev pub invariant-loop-name : goal.invariant-loop-name
invariant-loop-name l = IsSoFar string l.names l.initial.writing l.name-index l.writing
