-- What a call adds to the tokens of a command.
use Rattle.std.specs.Prelude.{◌≡◌, ℕ, ◌-◌, List, [], ◌∷◌, ◌++◌, take, drop, Result, OnOk}
use Rattle.std.specs.declared.ops.Range.{Range}
use Rattle.acap_lexer.specs.declared.kind.Kind.{Kind}
use Rattle.acap_lexer.specs.Token.{Token}

-- a token of that kind and value, which lies there in the command
abbrev pub Adds : {X E : Type 0} → Result X E → List Token → List Token → Kind → List ℕ → Range ℕ → Type 0
Adds result old new kind value span =
    OnOk result (new ≡ old ++ record { kind = kind; value = value; start = span.start; end = span.end } ∷ [])

-- what lies there in a text
abbrev pub lying : List ℕ → Range ℕ → List ℕ
lying text span = take (span.end - span.start) (drop span.start text)
