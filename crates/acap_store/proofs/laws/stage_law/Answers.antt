use Rattle.acap_store.proofs.Stages.{stage_law}
use Rattle.acap_store.proofs.laws.stage_law.Goals as goal

pub returns : goal.returns
returns c = stage_law
