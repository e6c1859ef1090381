use Rattle.acap_machine.proofs.StepLaws.{change}
use Rattle.acap_machine.proofs.laws.change_law.Goals as goal

pub returns : goal.returns
returns c = change
