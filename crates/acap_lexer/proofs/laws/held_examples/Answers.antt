use Rattle.acap_lexer.proofs.Computing.{held_examples}
use Rattle.acap_lexer.proofs.laws.held_examples.Goals as goal

pub returns : goal.returns
returns c = held_examples
