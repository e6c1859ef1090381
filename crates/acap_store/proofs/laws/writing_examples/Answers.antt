use Rattle.acap_store.proofs.Computing.{writing_examples}
use Rattle.acap_store.proofs.laws.writing_examples.Goals as goal

pub returns : goal.returns
returns c = writing_examples
