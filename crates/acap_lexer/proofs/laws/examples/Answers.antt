use Rattle.acap_lexer.proofs.Computing.{examples}
use Rattle.acap_lexer.proofs.laws.examples.Goals as goal

pub returns : goal.returns
returns c = examples
