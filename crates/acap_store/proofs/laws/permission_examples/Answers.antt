use Rattle.acap_store.proofs.Computing.{permission_examples}
use Rattle.acap_store.proofs.laws.permission_examples.Goals as goal

pub returns : goal.returns
returns c = permission_examples
