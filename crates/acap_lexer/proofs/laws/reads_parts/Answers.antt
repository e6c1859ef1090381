use Rattle.acap_lexer.proofs.PartBound.{reads_parts}
use Rattle.acap_lexer.proofs.laws.reads_parts.Goals as goal

pub returns : goal.returns
returns c = reads_parts
