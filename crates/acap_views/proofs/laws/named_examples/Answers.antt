use Rattle.acap_views.proofs.ExampleLemmas.{named_examples}
use Rattle.acap_views.proofs.laws.named_examples.Goals as goal

pub returns : goal.returns
returns c = named_examples
