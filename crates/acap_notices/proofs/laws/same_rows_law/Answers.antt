use Rattle.acap_notices.proofs.RuleLemmas.{same_rows}
use Rattle.acap_notices.proofs.laws.same_rows_law.Goals as goal

pub returns : goal.returns
returns c = same_rows
