use Rattle.acap_search.proofs.ExampleLemmas.{key_examples}
use Rattle.acap_search.proofs.laws.key_examples.Goals as goal

pub returns : goal.returns
returns c = key_examples
