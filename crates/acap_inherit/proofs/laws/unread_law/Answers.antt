use Rattle.acap_inherit.proofs.UnreadLaws.{unread_law}
use Rattle.acap_inherit.proofs.laws.unread_law.Goals as goal

pub returns : goal.returns
returns c = unread_law
