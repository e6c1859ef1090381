use Rattle.acap_views.proofs.RangingLemmas.{ranged_law}
use Rattle.acap_views.proofs.laws.ranged_law.Goals as goal

pub returns : goal.returns
returns c = ranged_law c.changed_law.ensures
