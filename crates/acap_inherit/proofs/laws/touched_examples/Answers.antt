use Rattle.acap_inherit.proofs.TouchedSamples.{touched_examples}
use Rattle.acap_inherit.proofs.laws.touched_examples.Goals as goal

pub returns : goal.returns
returns c = touched_examples
