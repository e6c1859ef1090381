use Rattle.acap_search.proofs.ExampleLemmas.{scope_examples}
use Rattle.acap_search.proofs.laws.scope_examples.Goals as goal

pub returns : goal.returns
returns c = scope_examples
