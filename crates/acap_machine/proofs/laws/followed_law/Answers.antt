use Rattle.acap_machine.proofs.Following.{followed}
use Rattle.acap_machine.proofs.laws.followed_law.Goals as goal

pub returns : goal.returns
returns c = followed c.current_law.ensures c.sound_law.ensures
