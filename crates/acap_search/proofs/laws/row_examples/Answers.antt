use Rattle.acap_search.proofs.ExampleLemmas.{row_examples}
use Rattle.acap_search.proofs.laws.row_examples.Goals as goal

pub returns : goal.returns
returns c = row_examples
