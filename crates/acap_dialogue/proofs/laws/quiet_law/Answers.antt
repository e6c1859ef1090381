use Rattle.acap_dialogue.proofs.Speaking as speaking
use Rattle.acap_dialogue.proofs.laws.quiet_law.Goals as goal

pub returns : goal.returns
returns c = speaking.quiet_law
