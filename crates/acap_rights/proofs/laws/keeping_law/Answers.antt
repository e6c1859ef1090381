use Rattle.acap_rights.proofs.DecidingLemmas.{keeping_law}
use Rattle.acap_rights.proofs.laws.keeping_law.Goals as goal

pub returns : goal.returns
returns c = keeping_law
