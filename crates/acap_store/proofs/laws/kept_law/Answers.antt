use Rattle.acap_store.proofs.StoreLaws.{kept_law}
use Rattle.acap_store.proofs.laws.kept_law.Goals as goal

pub returns : goal.returns
returns c = kept_law
