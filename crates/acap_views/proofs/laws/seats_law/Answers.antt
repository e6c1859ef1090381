use Rattle.acap_views.proofs.ShownLemmas.{seats_law}
use Rattle.acap_views.proofs.laws.seats_law.Goals as goal

pub returns : goal.returns
returns c = seats_law
