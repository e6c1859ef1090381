use Rattle.acap_dialogue.proofs.Computing as computing
use Rattle.acap_dialogue.proofs.laws.run_examples.Goals as goal

pub returns : goal.returns
returns c = computing.run_examples
