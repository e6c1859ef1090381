use Rattle.acap_grammar.proofs.PrintedApart.{apart}
use Rattle.acap_grammar.proofs.reading_laws.apart_law.Goals as goal

pub returns : goal.returns
returns c = apart
