use Rattle.acap_store.proofs.StoreLaws.{later_law}
use Rattle.acap_store.proofs.laws.later_law.Goals as goal

pub returns : goal.returns
returns c = later_law
