use Rattle.acap_notices.proofs.RuleLemmas.{places}
use Rattle.acap_notices.proofs.laws.places_law.Goals as goal

pub returns : goal.returns
returns c = places
