use Rattle.acap_session.proofs.Forming.{command_formed}
use Rattle.acap_session.proofs.Living.{live_law}
use Rattle.acap_session.proofs.laws.live_law.Goals as goal

pub returns : goal.returns
returns c = live_law c.current_law.ensures c.held_law.ensures c.seen_law.ensures command_formed
