use Rattle.acap_lexer.proofs.Runs.{no_escape, split_escape}
use Rattle.std.proofs.Common.{sym, ◌∙◌}
use Rattle.acap_lexer.proofs.print.split_at_escape.Goals as goal

pub returns-in-None : goal.returns-in-None
returns-in-None c = no_escape _ c.in-None.ensures

pub returns-in_ok-escape-in-Some : goal.returns-in_ok-escape-in-Some
returns-in_ok-escape-in-Some c = split_escape _ _ _ _ _ c.in-Some.ensures c.split_at.ensures.front (sym c.split_at.ensures.back ∙ c.in_ok-escape-in-Some.ensures.cases.0)
