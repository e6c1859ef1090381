use Rattle.acap_locked.proofs.Computing.{ring_examples}
use Rattle.acap_locked.proofs.laws.ring_examples.Goals as goal

pub returns : goal.returns
returns c = ring_examples
