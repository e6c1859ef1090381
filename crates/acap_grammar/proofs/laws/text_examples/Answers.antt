use Rattle.acap_grammar.proofs.Computing.{text_examples}
use Rattle.acap_grammar.proofs.laws.text_examples.Goals as goal

pub returns : goal.returns
returns c = text_examples
