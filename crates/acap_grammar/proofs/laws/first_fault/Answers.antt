use Rattle.acap_grammar.proofs.FaultPlaces.{first_fault}
use Rattle.acap_grammar.proofs.laws.first_fault.Goals as goal

pub returns : goal.returns
returns c = first_fault
