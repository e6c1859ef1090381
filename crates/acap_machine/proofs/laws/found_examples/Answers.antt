use Rattle.acap_machine.proofs.Computing.{found_examples}
use Rattle.acap_machine.proofs.laws.found_examples.Goals as goal

pub returns : goal.returns
returns c = found_examples
