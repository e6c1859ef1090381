use Rattle.acap_grammar.proofs.HeardLines.{hearing}
use Rattle.acap_grammar.proofs.reading_laws.hearing_law.Goals as goal

pub returns : goal.returns
returns c = hearing
