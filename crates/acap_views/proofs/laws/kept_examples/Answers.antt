use Rattle.acap_views.proofs.ExampleLemmas.{kept_examples}
use Rattle.acap_views.proofs.laws.kept_examples.Goals as goal

pub returns : goal.returns
returns c = kept_examples
