use Rattle.acap_grammar.proofs.Computing.{line_faults}
use Rattle.acap_grammar.proofs.laws.line_faults.Goals as goal

pub returns : goal.returns
returns c = line_faults
