use Rattle.std.proofs.Common.{sym, ◌∙◌, arith}
use Rattle.acap_lexer.proofs.Quoting.{plain_run}
use Rattle.acap_lexer.proofs.strings.run_at.Goals as goal

pub returns : goal.returns
returns c = (
  plain_run _ _ _ _ _ _ c.in-Some.ensures.cases.0 (sym c.is_quotable.ensures ∙ c.if-not-is_quotable.false) c.plain_len.ensures.longest c.split_at.ensures.front c.split_at.ensures.back,
  omega (arith, c.split_at.ensures.back_len, c.in-Some.ensures.cases.1),
)
