use Rattle.acap_lexer.proofs.LexerLaws.{pushed}
use Rattle.acap_lexer.proofs.lexer.Lexer.push.Goals as goal

pub invariant_of-self-2 : goal.invariant_of-self-2
invariant_of-self-2 c =
    rw c.in_ok-extend_from_slice.ensures.items (pushed _ _ _ _ _ _ c.self.invariant c.compact-self-inside.ensures.rest c.compact-self-inside.ensures.within)
