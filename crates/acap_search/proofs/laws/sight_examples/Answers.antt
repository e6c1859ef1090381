use Rattle.acap_search.proofs.ExampleLemmas.{sight_examples}
use Rattle.acap_search.proofs.laws.sight_examples.Goals as goal

pub returns : goal.returns
returns c = sight_examples
