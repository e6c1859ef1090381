use Rattle.acap_machine.proofs.PlainSteps.{plain_law}
use Rattle.acap_machine.proofs.laws.plain_law.Goals as goal

pub returns : goal.returns
returns c = plain_law c.current_law.ensures c.sound_law.ensures
