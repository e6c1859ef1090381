use Rattle.acap_store.proofs.Stages.{change_examples}
use Rattle.acap_store.proofs.laws.change_examples.Goals as goal

pub returns : goal.returns
returns c = change_examples
