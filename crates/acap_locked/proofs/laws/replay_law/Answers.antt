use Rattle.acap_locked.proofs.Runs.{replay_law}
use Rattle.acap_locked.proofs.laws.replay_law.Goals as goal

pub returns : goal.returns
returns c = replay_law
