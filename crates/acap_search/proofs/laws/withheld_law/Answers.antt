use Rattle.acap_search.proofs.WithheldLemmas.{withheld_law}
use Rattle.acap_search.proofs.laws.withheld_law.Goals as goal

pub returns : goal.returns
returns c = withheld_law c.reading_law.ensures c.sight_law.ensures
