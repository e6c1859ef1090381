use Rattle.acap_rights.proofs.EditLemmas.{edit_law}
use Rattle.acap_rights.proofs.laws.edit_law.Goals as goal

pub returns : goal.returns
returns c = edit_law
