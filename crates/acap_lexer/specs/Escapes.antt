-- Where the first octet lies that is printed after a backslash.
use Rattle.std.specs.Prelude.{◌≡◌, ℕ, ◌<◌, List, ◌∷◌, ◌++◌, length, Option, MatchOption}
use Rattle.std.specs.Borrow.{Bor}
use Rattle.acap_lexer.specs.Octets.{backslash}
use Rattle.acap_lexer.specs.Printing.{escaped_form}

-- what stands before it, the octet, and what stands after it
pub record IsSplitAtEscape (text run : List ℕ) (escape : ℕ) (behind : List ℕ) : Type 0 where
  pub form : escaped_form text ≡ run ++ backslash ∷ escape ∷ escaped_form behind
  pub shorter : length behind < length text

-- the parts at the first such octet, or none where no octet is printed so
abbrev pub SplitsAtEscape : List ℕ → Option (Bor (List ℕ) × ℕ × Bor (List ℕ)) → Type 0
SplitsAtEscape text result =
    MatchOption result (escaped_form text ≡ text) (λ x. IsSplitAtEscape text x.0.now x.1 x.2.now)
