use Rattle.acap_dialogue.proofs.Running as running
use Rattle.acap_dialogue.proofs.laws.seated_law.Goals as goal

pub returns : goal.returns
returns c = running.seated_law
