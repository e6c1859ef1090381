use Rattle.acap_inherit.proofs.ReadingLaws.{nothing_law}
use Rattle.acap_inherit.proofs.laws.nothing_law.Goals as goal

pub returns : goal.returns
returns c = nothing_law
