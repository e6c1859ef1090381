use Rattle.acap_lexer.proofs.PieceLoops.{joins_start, joins_piece, joins_end}
use Rattle.acap_lexer.proofs.pieces.answers.Goals as goal

pub loop-piece-init : goal.loop-piece-init
loop-piece-init c = joins_start _ _ _ _ c.new-lexer.ensures c.new-said.ensures.items

pub loop-piece-preserved : goal.loop-piece-preserved
loop-piece-preserved c = joins_piece _ _ _ _ _ _ _ _ _ _ c.loop-piece-test.true c.loop-piece.invariant c.in_ok-left.ensures

pub returns : goal.returns
returns c = joins_end _ _ _ _ _ _ c.loop-piece-test.false c.loop-piece.invariant
