use Rattle.acap_views.proofs.WaitingLemmas.{waiting_law}
use Rattle.acap_views.proofs.laws.waiting_law.Goals as goal

pub returns : goal.returns
returns c = waiting_law
