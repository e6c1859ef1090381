use Rattle.acap_lexer.proofs.Computing.{printed_examples}
use Rattle.acap_lexer.proofs.laws.printed_examples.Goals as goal

pub returns : goal.returns
returns c = printed_examples
