use Rattle.acap_machine.proofs.Following.{current}
use Rattle.acap_machine.proofs.laws.current_law.Goals as goal

pub returns : goal.returns
returns c = current c.current_law.ensures c.sound_law.ensures
