use Rattle.acap_notices.proofs.RuleLemmas.{joined}
use Rattle.acap_notices.proofs.laws.joined_law.Goals as goal

pub returns : goal.returns
returns c = joined
