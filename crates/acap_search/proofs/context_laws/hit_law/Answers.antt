use Rattle.acap_search.proofs.HitLemmas.{hit_law}
use Rattle.acap_search.proofs.context_laws.hit_law.Goals as goal

pub returns : goal.returns
returns c = hit_law c.nothing_law.ensures c.names_law.ensures
