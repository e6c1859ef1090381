use Rattle.acap_grammar.proofs.PrintedApart.{printed_law}
use Rattle.acap_grammar.proofs.reading_laws.printed_law.Goals as goal

pub returns : goal.returns
returns c = printed_law
