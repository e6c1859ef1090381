use Rattle.acap_task.proofs.Passing as passing
use Rattle.acap_task.proofs.laws.history_law.Goals as goal

pub returns : goal.returns
returns c = passing.history_law
