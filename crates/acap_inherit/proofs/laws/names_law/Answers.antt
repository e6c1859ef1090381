use Rattle.acap_inherit.proofs.NamesLaws.{names_law}
use Rattle.acap_inherit.proofs.laws.names_law.Goals as goal

pub returns : goal.returns
returns c = names_law
