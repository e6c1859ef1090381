use Rattle.acap_machine.proofs.ClientLaws.{seen_law}
use Rattle.acap_machine.proofs.laws.seen_law.Goals as goal

pub returns : goal.returns
returns c = seen_law c.sight_law.ensures
