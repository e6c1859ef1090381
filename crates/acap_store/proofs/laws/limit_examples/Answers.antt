use Rattle.acap_store.proofs.Computing.{limit_examples}
use Rattle.acap_store.proofs.laws.limit_examples.Goals as goal

pub returns : goal.returns
returns c = limit_examples
