use Rattle.acap_lexer.proofs.SpelledLines.{spelling_reads, line_spelled}
use Rattle.acap_lexer.proofs.laws.reads_spellings.Goals as goal

pub returns-clause-spelled : goal.returns-clause-spelled
returns-clause-spelled c = spelling_reads

pub returns-clause-read : goal.returns-clause-read
returns-clause-read c = line_spelled
