use Rattle.acap_machine.proofs.StepLaws.{others}
use Rattle.acap_machine.proofs.laws.others_law.Goals as goal

pub returns : goal.returns
returns c = others
