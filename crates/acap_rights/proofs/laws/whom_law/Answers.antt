use Rattle.acap_rights.proofs.RightsLemmas.{whom_law}
use Rattle.acap_rights.proofs.laws.whom_law.Goals as goal

pub returns : goal.returns
returns c = whom_law
