use Rattle.acap_locked.proofs.Computing.{epoch_examples}
use Rattle.acap_locked.proofs.laws.epoch_examples.Goals as goal

pub returns : goal.returns
returns c = epoch_examples
