use Rattle.acap_search.proofs.SightLemmas.{sight_law}
use Rattle.acap_search.proofs.laws.sight_law.Goals as goal

pub returns : goal.returns
returns c = sight_law c.nothing_law.ensures
