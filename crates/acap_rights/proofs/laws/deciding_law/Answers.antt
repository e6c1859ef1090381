use Rattle.acap_rights.proofs.DecidingLemmas.{deciding_law}
use Rattle.acap_rights.proofs.laws.deciding_law.Goals as goal

pub returns : goal.returns
returns c = deciding_law
