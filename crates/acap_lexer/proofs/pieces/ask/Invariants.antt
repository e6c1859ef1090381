use Rattle.acap_lexer.proofs.AskLoop.{IsSoFar, due}
use Rattle.acap_lexer.proofs.pieces.ask.Given as goal

abbrev pub invariant-continuations : goal.invariant-continuations
invariant-continuations l = IsSoFar l.mode l.initial.lexer l.initial.said.items l.lexer l.said.items

abbrev pub decreases-continuations : goal.decreases-continuations
decreases-continuations l = due l.mode l.lexer
