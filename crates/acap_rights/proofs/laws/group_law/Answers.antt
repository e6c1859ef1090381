use Rattle.acap_rights.proofs.GroupLemmas.{group_law}
use Rattle.acap_rights.proofs.laws.group_law.Goals as goal

pub returns : goal.returns
returns c = group_law
