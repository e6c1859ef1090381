use Rattle.acap_locked.proofs.Computing.{pass_examples}
use Rattle.acap_locked.proofs.laws.pass_examples.Goals as goal

pub returns : goal.returns
returns c = pass_examples
