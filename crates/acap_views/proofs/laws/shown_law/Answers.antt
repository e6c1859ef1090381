use Rattle.acap_views.proofs.ShownLemmas.{shown_law}
use Rattle.acap_views.proofs.laws.shown_law.Goals as goal

pub returns : goal.returns
returns c = shown_law
