use Rattle.acap_machine.proofs.Computing.{serving_examples}
use Rattle.acap_machine.proofs.laws.serving_examples.Goals as goal

pub returns : goal.returns
returns c = serving_examples
