use Rattle.acap_lexer.proofs.PieceLoops.{asks_closed, asks_none}
use Rattle.acap_lexer.proofs.pieces.ask_all.Goals as goal

pub returns-in-Closed : goal.returns-in-Closed
returns-in-Closed c = asks_closed _ _ _ _ _ _ _ _ _ _ c.in-Some.ensures.cases.0 c.commands.invariant (rw c.in-Closed.is at c.in_ok-ask.ensures)

pub returns : goal.returns
returns c = asks_none _ _ _ _ _ _ c.in_default.ensures.cases c.commands.invariant
