use Rattle.acap_machine.proofs.ClientLaws.{held_law}
use Rattle.acap_machine.proofs.laws.held_law.Goals as goal

pub returns : goal.returns
returns c = held_law
