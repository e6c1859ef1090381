use Rattle.acap_machine.proofs.StepLaws.{refused}
use Rattle.acap_machine.proofs.laws.refused_law.Goals as goal

pub returns : goal.returns
returns c = refused
