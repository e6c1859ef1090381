use Rattle.acap_inherit.proofs.FirstLaws.{first_law}
use Rattle.acap_inherit.proofs.laws.first_law.Goals as goal

pub returns : goal.returns
returns c = first_law
