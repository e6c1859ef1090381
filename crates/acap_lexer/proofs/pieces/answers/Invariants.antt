use Rattle.std.proofs.Common.{drop}
use Rattle.acap_lexer.proofs.PieceLoops.{JoinsSoFar}
use Rattle.acap_lexer.proofs.pieces.answers.Given as goal

abbrev pub invariant-loop-piece : goal.invariant-loop-piece
invariant-loop-piece l = JoinsSoFar l.modes l.pieces (drop l.piece-index l.pieces) l.left l.lexer l.said.items
