use Rattle.acap_views.proofs.NoticeLemmas.{moved_law}
use Rattle.acap_views.proofs.laws.moved_law.Goals as goal

pub returns : goal.returns
returns c = moved_law c.once_law.ensures
