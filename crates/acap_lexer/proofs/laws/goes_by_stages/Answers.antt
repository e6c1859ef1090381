use Rattle.acap_lexer.proofs.ProgressLaws.{by_stages}
use Rattle.acap_lexer.proofs.laws.goes_by_stages.Goals as goal

pub returns : goal.returns
returns c = by_stages
