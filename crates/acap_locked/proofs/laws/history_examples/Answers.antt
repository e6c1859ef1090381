use Rattle.acap_locked.proofs.Computing.{history_examples}
use Rattle.acap_locked.proofs.laws.history_examples.Goals as goal

pub returns : goal.returns
returns c = history_examples
