use Rattle.acap_inherit.proofs.ExampleLemmas.{chain_examples}
use Rattle.acap_inherit.proofs.laws.chain_examples.Goals as goal

pub returns : goal.returns
returns c = chain_examples
