use Rattle.acap_rights.proofs.RightsLemmas.{owner_law}
use Rattle.acap_rights.proofs.laws.owner_law.Goals as goal

pub returns : goal.returns
returns c = owner_law
