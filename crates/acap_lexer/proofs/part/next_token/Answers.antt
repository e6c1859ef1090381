use Rattle.acap_lexer.proofs.Copies.{gap_ends, lies_left, lies_grown, token_ends}
use Rattle.acap_lexer.proofs.part.next_token.Goals as goal

pub push_token-requires-clause-copied : goal.push_token-requires-clause-copied
push_token-requires-clause-copied c = lies_left _ _ _ _ c.requires.copied (gap_ends _ _ _ c.in_ok-front.ensures.gives)

pub returns-clause-copied : goal.returns-clause-copied
returns-clause-copied c =
    let front = lies_left _ _ _ _ c.requires.copied (gap_ends _ _ _ c.in_ok-front.ensures.gives) in
    lies_left _ _ _ _ (lies_grown _ _ _ _ c.in_ok-push_token.ensures.text front) (token_ends _ _ _ _ _ c.in_ok-push_token.ensures.gives)
