use Rattle.acap_views.proofs.ShownLemmas.{changed_law}
use Rattle.acap_views.proofs.laws.changed_law.Goals as goal

pub returns : goal.returns
returns c = changed_law
