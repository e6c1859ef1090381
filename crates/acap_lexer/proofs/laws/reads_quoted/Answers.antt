use Rattle.acap_lexer.proofs.Quoting.{reads_quoted}
use Rattle.acap_lexer.proofs.laws.reads_quoted.Goals as goal

pub returns : goal.returns
returns c = reads_quoted
