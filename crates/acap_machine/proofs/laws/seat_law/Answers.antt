use Rattle.acap_machine.proofs.Computing.{seat_law}
use Rattle.acap_machine.proofs.laws.seat_law.Goals as goal

pub returns : goal.returns
returns c = seat_law
