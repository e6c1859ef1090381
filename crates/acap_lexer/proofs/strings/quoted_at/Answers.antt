use Rattle.acap_lexer.proofs.QuotingLoop.{closes}
use Rattle.acap_lexer.proofs.strings.quoted_at.Goals as goal

pub returns-in-None-clause-gives : goal.returns-in-None-clause-gives
returns-in-None-clause-gives c = closes _ _ _ _ _ c.runs.invariant (rw c.in-None.is at c.in_ok-run.ensures)
