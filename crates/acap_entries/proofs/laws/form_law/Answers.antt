use Rattle.acap_entries.proofs.FormLemmas.{form_law}
use Rattle.acap_entries.proofs.laws.form_law.Goals as goal

pub returns : goal.returns
returns c = form_law
