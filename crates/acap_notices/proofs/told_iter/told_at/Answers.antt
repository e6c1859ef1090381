use Rattle.acap_notices.proofs.BatchLemmas.{told_next}
use Rattle.acap_notices.proofs.told_iter.told_at.Goals as goal

pub returns-then-at-notices-clause-some : goal.returns-then-at-notices-clause-some
returns-then-at-notices-clause-some c = told_next _ _ _ _ c.as_slice-notices.ensures c.if-at-notices.true c.index-notices-at.is
