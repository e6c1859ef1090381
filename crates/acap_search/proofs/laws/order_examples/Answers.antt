use Rattle.acap_search.proofs.ExampleLemmas.{order_examples}
use Rattle.acap_search.proofs.laws.order_examples.Goals as goal

pub returns : goal.returns
returns c = order_examples
