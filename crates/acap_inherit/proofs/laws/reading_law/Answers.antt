use Rattle.acap_inherit.proofs.ReadingLaws.{reading_law}
use Rattle.acap_inherit.proofs.laws.reading_law.Goals as goal

pub returns : goal.returns
returns c = reading_law
