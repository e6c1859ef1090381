-- What the code's tokens and tables stand for.
use Rattle.std.specs.Prelude.{◌≡◌, ℕ, List, [], ◌∷◌, drop, map, Option, Some, None}
use Rattle.std.specs.Borrow.{Bor}
use Rattle.acap_lexer.specs.declared.kind.Kind.{Kind}
use Rattle.acap_lexer.specs.Token.{Token}
use Rattle.acap_grammar.specs.declared.cursor.Piece.{Piece}

abbrev pub token_of : Piece → Token
token_of p = record { kind = p.kind; value = p.value.now; start = p.start; end = p.end }

-- what stands first among tokens, if there is one
abbrev pub IsFirst : Option Piece → List Token → Type 0
IsFirst None tokens = tokens ≡ []
IsFirst (Some p) tokens = tokens ≡ token_of p ∷ drop 1 tokens

-- what the first token is
abbrev pub kind_of : List Token → Option Kind
kind_of [] = None
kind_of (t ∷ rest) = Some t.kind

abbrev pub rows_of : {A : Type 0} → List (Bor (List ℕ) × A) → List (List ℕ × A)
rows_of table = map (λ row. (row.0.now, row.1)) table
