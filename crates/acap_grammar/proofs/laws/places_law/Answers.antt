use Rattle.acap_grammar.proofs.PlainReads.{places_law}
use Rattle.acap_grammar.proofs.laws.places_law.Goals as goal

pub returns : goal.returns
returns c = places_law
