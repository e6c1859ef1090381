use Rattle.acap_grammar.proofs.Computing.{line_examples}
use Rattle.acap_grammar.proofs.laws.line_examples.Goals as goal

pub returns : goal.returns
returns c = line_examples
