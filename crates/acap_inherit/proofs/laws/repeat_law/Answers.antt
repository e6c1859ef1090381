use Rattle.acap_inherit.proofs.RepeatLaws.{repeat_law}
use Rattle.acap_inherit.proofs.laws.repeat_law.Goals as goal

pub returns : goal.returns
returns c = repeat_law
