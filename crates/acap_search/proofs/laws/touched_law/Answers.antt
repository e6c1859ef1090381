use Rattle.acap_search.proofs.TouchedLemmas.{touched_law}
use Rattle.acap_search.proofs.laws.touched_law.Goals as goal

pub returns : goal.returns
returns c = touched_law c.nothing_law.ensures c.names_law.ensures c.unread_law.ensures
