use Rattle.acap_rights.proofs.RightsLemmas.{administrator_law}
use Rattle.acap_rights.proofs.laws.administrator_law.Goals as goal

pub returns : goal.returns
returns c = administrator_law
