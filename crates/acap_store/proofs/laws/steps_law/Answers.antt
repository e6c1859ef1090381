use Rattle.acap_store.proofs.LimitLaws.{steps_law}
use Rattle.acap_store.proofs.laws.steps_law.Goals as goal

pub returns : goal.returns
returns c = steps_law
