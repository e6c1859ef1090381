use Rattle.acap_search.proofs.SeenLemmas.{seen_law}
use Rattle.acap_search.proofs.laws.seen_law.Goals as goal

pub returns : goal.returns
returns c = seen_law c.nothing_law.ensures c.names_law.ensures
