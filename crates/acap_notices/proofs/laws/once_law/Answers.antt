use Rattle.acap_notices.proofs.RuleLemmas.{once_after}
use Rattle.acap_notices.proofs.laws.once_law.Goals as goal

pub returns : goal.returns
returns c = once_after
