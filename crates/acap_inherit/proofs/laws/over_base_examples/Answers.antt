use Rattle.acap_inherit.proofs.ExampleLemmas.{over_base_examples}
use Rattle.acap_inherit.proofs.laws.over_base_examples.Goals as goal

pub returns : goal.returns
returns c = over_base_examples
