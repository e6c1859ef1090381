use Rattle.acap_grammar.proofs.HeardReplies.{readable}
use Rattle.acap_grammar.proofs.reading_laws.readable_law.Goals as goal

pub returns : goal.returns
returns c = readable
