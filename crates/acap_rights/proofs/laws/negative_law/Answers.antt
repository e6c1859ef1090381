use Rattle.acap_rights.proofs.RightsLemmas.{negative_law}
use Rattle.acap_rights.proofs.laws.negative_law.Goals as goal

pub returns : goal.returns
returns c = negative_law
