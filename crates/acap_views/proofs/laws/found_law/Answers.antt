use Rattle.acap_views.proofs.NoticeLemmas.{found_law}
use Rattle.acap_views.proofs.laws.found_law.Goals as goal

pub returns : goal.returns
returns c = found_law c.once_law.ensures
