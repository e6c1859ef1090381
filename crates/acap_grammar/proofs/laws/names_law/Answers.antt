use Rattle.acap_grammar.proofs.FormedNames.{names_law}
use Rattle.acap_grammar.proofs.laws.names_law.Goals as goal

pub returns : goal.returns
returns c = names_law
