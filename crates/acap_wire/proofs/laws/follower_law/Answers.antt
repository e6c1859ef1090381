use Rattle.acap_wire.proofs.Following.{follower_law}
use Rattle.acap_wire.proofs.laws.follower_law.Goals as goal

pub returns : goal.returns
returns c =
    follower_law c.printed_law.ensures c.readable_law.ensures c.hearing_law.ensures c.current_law.ensures c.held_law.ensures
    c.live_law.ensures c.seating_law.ensures
