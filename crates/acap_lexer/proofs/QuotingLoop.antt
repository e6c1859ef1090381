-- What the loop over a quoted string keeps.
use Rattle.std.proofs.Common.{◌≡◌, ℕ, ◌≤◌, List, length, None, Ok, sym, ap, ◌∙◌}
use Rattle.std.proofs.lemmas.List.{append-nil}
use Rattle.acap_lexer.specs.Printing.{Grows}
use Rattle.acap_lexer.specs.Reading.{Read, behind, quoted_at}
use Rattle.acap_lexer.specs.Taking.{TakesFrom}

pub record IsSoFar (old rest new left : List ℕ) : Type 0 where
  pub reads : behind new (quoted_at left) ≡ behind old (quoted_at rest)
  pub grows : Grows old new
  pub within : length left ≤ length rest

pub closes : (old rest text left after : List ℕ) → IsSoFar old rest text left → TakesFrom (quoted_at left) left None after
    → behind old (quoted_at rest) ≡ Ok (text, after)
closes old rest text left after s t =
    sym s.reads ∙ ap (behind text) t.0 ∙ ap (λ (bs : List ℕ). let r : Read (List ℕ) = Ok (bs, after) in r) (append-nil text)
