use Rattle.acap_machine.proofs.Completing.{completing}
use Rattle.acap_machine.proofs.laws.completing_law.Goals as goal

pub returns : goal.returns
returns c = completing
