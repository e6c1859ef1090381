use Rattle.acap_task.proofs.Computing.{told_examples}
use Rattle.acap_task.proofs.laws.told_examples.Goals as goal

pub returns : goal.returns
returns c = told_examples
