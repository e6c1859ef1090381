use Rattle.acap_search.proofs.ExampleLemmas.{limit_examples}
use Rattle.acap_search.proofs.laws.limit_examples.Goals as goal

pub returns : goal.returns
returns c = limit_examples
