use Rattle.acap_lexer.proofs.Places.{tokens_grow}
use Rattle.acap_lexer.proofs.draft.Draft.copy_part.Goals as goal

pub returns-clause-tokens : goal.returns-clause-tokens
returns-clause-tokens c =
    rw (c.in_ok-extend_from_slice.ensures.items, c.in_ok-reserve.ensures.items, ← c.self.view_is) (tokens_grow _ _ _ c.self.invariant)
