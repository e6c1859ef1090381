use Rattle.acap_notices.proofs.RuleLemmas.{change_by_two}
use Rattle.acap_notices.proofs.laws.change_law.Goals as goal

pub returns : goal.returns
returns c = change_by_two
