use Rattle.acap_store.proofs.StoreLaws.{path_law}
use Rattle.acap_store.proofs.laws.path_law.Goals as goal

pub returns : goal.returns
returns c = path_law
