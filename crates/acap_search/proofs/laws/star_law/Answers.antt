use Rattle.acap_search.proofs.SightLemmas.{star_law}
use Rattle.acap_search.proofs.laws.star_law.Goals as goal

pub returns : goal.returns
returns c = star_law c.nothing_law.ensures
