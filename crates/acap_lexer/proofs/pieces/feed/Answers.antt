use Rattle.std.proofs.Common.{◌≡◌, length, rules, tests}
use Rattle.acap_lexer.proofs.PieceLoops.{feeds_none}
use Rattle.acap_lexer.proofs.pieces.feed.Goals as goal

pub returns-then-is_empty : goal.returns-then-is_empty
returns-then-is_empty c =
    let none : length c.parts.left.now ≡ 0 = search (rules, tests) in
    feeds_none _ _ _ _ _ _ _ _ none c.parts.invariant
