use Rattle.acap_views.proofs.NoticeLemmas.{notice_law}
use Rattle.acap_views.proofs.laws.notice_law.Goals as goal

pub returns : goal.returns
returns c = notice_law c.sight_law.ensures c.once_law.ensures
