use Rattle.acap_session.proofs.WorldSeats.{seating}
use Rattle.acap_session.proofs.laws.seating_law.Goals as goal

pub returns : goal.returns
returns c = seating
