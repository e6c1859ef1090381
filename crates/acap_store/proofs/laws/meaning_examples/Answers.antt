use Rattle.acap_store.proofs.Computing.{meaning_examples}
use Rattle.acap_store.proofs.laws.meaning_examples.Goals as goal

pub returns : goal.returns
returns c = meaning_examples
