use Rattle.acap_search.proofs.OnceLemmas.{once_law}
use Rattle.acap_search.proofs.laws.once_law.Goals as goal

pub returns : goal.returns
returns c = once_law c.nothing_law.ensures c.names_law.ensures
