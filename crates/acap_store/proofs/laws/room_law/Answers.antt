use Rattle.acap_store.proofs.LimitLaws.{room_law}
use Rattle.acap_store.proofs.laws.room_law.Goals as goal

pub returns : goal.returns
returns c = room_law
