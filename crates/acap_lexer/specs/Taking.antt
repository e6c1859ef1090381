-- What the readers of a part promise of one step, whatever follows it.
use Rattle.std.specs.Prelude.{◌≡◌, ℕ, ◌<◌, ◌≤◌, List, [], length, take, Option, Some, None, Result, Ok, Err}
use Rattle.std.specs.Borrow.{Bor}
use Rattle.acap_lexer.specs.declared.fault.LexError.{LexError}
use Rattle.acap_lexer.specs.declared.fault.LexFault.{LexFault}
use Rattle.acap_lexer.specs.declared.found.Coming.{Coming}
use Rattle.acap_lexer.specs.declared.found.Coming.TheVariants.{Mark, Rest}
use Rattle.acap_lexer.specs.Places.{LiesIn}
use Rattle.acap_lexer.specs.Token.{Token}
use Rattle.acap_lexer.specs.Part.{Part, next_at}
use Rattle.acap_lexer.specs.Reading.{Fails, Read, behind, quoted_at, escaped_at, string_at}

-- octets of a string, or its closing quote
abbrev pub TakesFrom : Read (List ℕ) → List ℕ → Option (Bor (List ℕ)) → List ℕ → Type 0
TakesFrom read text None left = (read ≡ Ok ([], left)) × (length left < length text)
TakesFrom read text (Some run) left = (read ≡ behind run.now (quoted_at left)) × (length left < length text)

abbrev pub TakesRun : List ℕ → Result (Option (Bor (List ℕ)) × Bor (List ℕ)) LexError → Type 0
TakesRun text (Ok x) = TakesFrom (quoted_at text) text x.0 x.1.now
TakesRun text (Err e) = Fails e (quoted_at text)

-- the same after a backslash
abbrev pub TakesEscaped : List ℕ → Result (Option (Bor (List ℕ)) × Bor (List ℕ)) LexError → Type 0
TakesEscaped text (Ok x) = TakesFrom (escaped_at text) text x.0 x.1.now
TakesEscaped text (Err e) = Fails e (escaped_at text)

-- the next token of a part, or the mark that it ends in, whatever is read after it
abbrev pub TakesNext : ℕ → List Token → List Token → List ℕ → Result Coming LexError → Type 0
TakesNext end old new text (Ok (Mark start announced)) =
    ((go : List Token → List ℕ → Result Part LexFault)
    → next_at go end old text ≡ Ok (record { tokens = old; mark = Some (start, announced) }))
    × (new ≡ old)
TakesNext end old new text (Ok (Rest left)) =
    ((go : List Token → List ℕ → Result Part LexFault) → next_at go end old text ≡ go new left.now)
    × (length left.now ≤ length text)
TakesNext end old new text (Err e) =
    (go : List Token → List ℕ → Result Part LexFault) → Fails e (next_at go end old text)

-- a string without escapes at the beginning, and what is left after its closing quote
pub record IsPlainString (text : List ℕ) (n : ℕ) (left : List ℕ) : Type 0 where
  pub string_is : string_at text ≡ Ok (take n text, left)
  pub within : n ≤ length text
  pub shorter : length left ≤ length text

-- what is left after a token lies where the whole text lies
abbrev pub LeavesCopy : List ℕ → ℕ → Coming → Type 0
LeavesCopy whole behind (Mark start announced) = Unit {0}
LeavesCopy whole behind (Rest left) = LiesIn whole behind left.now
