use Rattle.acap_search.proofs.NamedLemmas.{name_law}
use Rattle.acap_search.proofs.laws.name_law.Goals as goal

pub returns : goal.returns
returns c = name_law
