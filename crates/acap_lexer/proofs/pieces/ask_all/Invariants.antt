use Rattle.std.proofs.Common.{length}
use Rattle.acap_lexer.proofs.PieceLoops.{AsksSoFar}
use Rattle.acap_lexer.proofs.pieces.ask_all.Given as goal

abbrev pub invariant-commands : goal.invariant-commands
invariant-commands l = AsksSoFar l.modes l.initial.lexer l.initial.said.items l.left l.lexer l.said.items

abbrev pub decreases-commands : goal.decreases-commands
decreases-commands l = length l.left
