use Rattle.acap_store.proofs.RootLemmas.{root_law}
use Rattle.acap_store.proofs.laws.root_law.Goals as goal

pub returns : goal.returns
returns c = root_law
