use Rattle.acap_session.proofs.WorldSeats.{completion}
use Rattle.acap_session.proofs.laws.completion_law.Goals as goal

pub returns : goal.returns
returns c = completion
