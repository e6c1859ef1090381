use Rattle.acap_lexer.proofs.ProgressLaws.{keeps_items}
use Rattle.acap_lexer.proofs.laws.keeps_items.Goals as goal

pub returns : goal.returns
returns c = keeps_items
