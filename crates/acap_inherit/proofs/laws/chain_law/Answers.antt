use Rattle.acap_inherit.proofs.ChainLaws.{chain_law}
use Rattle.acap_inherit.proofs.laws.chain_law.Goals as goal

pub returns : goal.returns
returns c = chain_law
