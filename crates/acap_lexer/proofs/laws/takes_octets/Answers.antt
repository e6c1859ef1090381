use Rattle.acap_lexer.proofs.ProgressLaws.{takes_octets}
use Rattle.acap_lexer.proofs.laws.takes_octets.Goals as goal

pub returns : goal.returns
returns c = takes_octets
