use Rattle.acap_inherit.proofs.ExampleLemmas.{moment_examples}
use Rattle.acap_inherit.proofs.laws.moment_examples.Goals as goal

pub returns : goal.returns
returns c = moment_examples
