use Rattle.acap_search.proofs.OnceLemmas.{scope_law}
use Rattle.acap_search.proofs.laws.scope_law.Goals as goal

pub returns : goal.returns
returns c = scope_law
