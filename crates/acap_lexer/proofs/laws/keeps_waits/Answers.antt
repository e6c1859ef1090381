use Rattle.acap_lexer.proofs.ProgressLaws.{keeps_waits}
use Rattle.acap_lexer.proofs.laws.keeps_waits.Goals as goal

pub returns : goal.returns
returns c = keeps_waits
