use Rattle.acap_inherit.proofs.ChainLaws.{base_law}
use Rattle.acap_inherit.proofs.laws.base_law.Goals as goal

pub returns : goal.returns
returns c = base_law
