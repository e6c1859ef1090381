use Rattle.std.proofs.Common.{length}
use Rattle.acap_lexer.proofs.PieceLoops.{FeedsSoFar}
use Rattle.acap_lexer.proofs.pieces.feed.Given as goal

abbrev pub invariant-parts : goal.invariant-parts
invariant-parts l = FeedsSoFar l.piece l.modes l.initial.lexer l.initial.said.items l.rest l.left l.lexer l.said.items

abbrev pub decreases-parts : goal.decreases-parts
decreases-parts l = length l.rest
