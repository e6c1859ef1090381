use Rattle.acap_search.proofs.SeenLemmas.{tuple_law}
use Rattle.acap_search.proofs.laws.tuple_law.Goals as goal

pub returns : goal.returns
returns c = tuple_law c.nothing_law.ensures c.names_law.ensures
