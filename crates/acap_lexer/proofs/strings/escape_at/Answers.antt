use Rattle.std.proofs.Common.{sym, ◌∙◌, arith}
use Rattle.acap_lexer.proofs.Quoting.{escaped_run}
use Rattle.acap_lexer.proofs.strings.escape_at.Goals as goal

pub returns : goal.returns
returns c = (
  escaped_run _ _ _ _ _ _ c.in-Some.ensures.cases.0 (sym c.is_escaped.ensures ∙ c.if-not-is_escaped.false) c.plain_len.ensures.longest c.split_at.ensures.front c.split_at.ensures.back,
  omega (arith, c.split_at.ensures.back_len, c.in-Some.ensures.cases.1),
)
