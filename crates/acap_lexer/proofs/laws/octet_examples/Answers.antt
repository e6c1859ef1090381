use Rattle.acap_lexer.proofs.Computing.{octet_examples}
use Rattle.acap_lexer.proofs.laws.octet_examples.Goals as goal

pub returns : goal.returns
returns c = octet_examples
