use Rattle.acap_wire.proofs.Ahead.{ahead_law}
use Rattle.acap_wire.proofs.laws.ahead_law.Goals as goal

pub returns : goal.returns
returns c = ahead_law
