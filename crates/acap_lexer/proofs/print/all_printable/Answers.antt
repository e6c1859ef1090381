use Rattle.acap_lexer.proofs.Runs.{none_forbidden, one_forbidden}
use Rattle.acap_lexer.proofs.print.all_printable.Goals as goal

pub returns-in-None : goal.returns-in-None
returns-in-None c = none_forbidden _ c.in-None.ensures

pub returns-in-Some : goal.returns-in-Some
returns-in-Some c = one_forbidden _ _ c.in-Some.ensures
