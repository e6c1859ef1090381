use Rattle.std.proofs.Common.{arith}
use Rattle.acap_lexer.proofs.PrintedLength.{short_half}
use Rattle.acap_lexer.proofs.print.is_short.Goals as goal

pub returns-then-text : goal.returns-then-text
returns-then-text c = short_half _ (omega arith)
