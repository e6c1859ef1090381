use Rattle.acap_grammar.proofs.ReadingComputed.{reading_examples}
use Rattle.acap_grammar.proofs.reading_laws.reading_examples.Goals as goal

pub returns : goal.returns
returns c = reading_examples
