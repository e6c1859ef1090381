use Rattle.acap_store.proofs.Computing.{item_examples}
use Rattle.acap_store.proofs.laws.item_examples.Goals as goal

pub returns : goal.returns
returns c = item_examples
