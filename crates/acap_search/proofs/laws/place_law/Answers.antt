use Rattle.acap_search.proofs.PlaceLaws.{place_law}
use Rattle.acap_search.proofs.laws.place_law.Goals as goal

pub returns : goal.returns
returns c = place_law
