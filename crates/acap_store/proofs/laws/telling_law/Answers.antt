use Rattle.acap_store.proofs.Computing.{telling_law}
use Rattle.acap_store.proofs.laws.telling_law.Goals as goal

pub returns : goal.returns
returns c = telling_law
