use Rattle.acap_inherit.proofs.FirstLaws.{moment_law}
use Rattle.acap_inherit.proofs.laws.moment_law.Goals as goal

pub returns : goal.returns
returns c = moment_law
