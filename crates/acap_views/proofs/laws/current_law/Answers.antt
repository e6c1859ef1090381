use Rattle.acap_views.proofs.CurrentLemmas.{current_law}
use Rattle.acap_views.proofs.laws.current_law.Goals as goal

pub returns : goal.returns
returns c = current_law c.notice_law.ensures c.once_law.ensures
