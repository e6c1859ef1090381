use Rattle.acap_lexer.proofs.Copies.{lies_dropped}
use Rattle.acap_lexer.proofs.part.begin.Goals as goal

pub returns-then-is_empty-clause-copied : goal.returns-then-is_empty-clause-copied
returns-then-is_empty-clause-copied c =
    rw c.in_ok-push_front.ensures.text (lies_dropped _ _ _ _ _ c.requires c.in_ok-tag.ensures.splits.left_is)
