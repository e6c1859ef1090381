-- Laws of the definitions.
use Rattle.std.specs.Prelude.{◌≡◌, ℕ, ◌≤◌, ◌<◌, List, ◌++◌, length, take, Some, None, IsTrue, Ok}
use Rattle.acap_lexer.specs.declared.kind.Kind.TheVariants as kinds
use Rattle.acap_lexer.specs.declared.lexed.Lexed.{Lexed}
use Rattle.acap_lexer.specs.declared.lexed.Lexed.TheVariants.{Line}
use Rattle.acap_lexer.specs.declared.lexed.Mode.{Mode}
use Rattle.acap_lexer.specs.Holding.{held_limit}
use Rattle.acap_lexer.specs.Part.{part_within}
use Rattle.acap_lexer.specs.Reading.{token_at}
use Rattle.acap_lexer.specs.Stream.{Stage, IsItem, step_of, octets_of, progress, progress_from, progress_by}
use Rattle.acap_lexer.specs.Printing.{may_quote, quoted_form}
use Rattle.acap_lexer.specs.Spelling.{IsSpelling}
use Rattle.acap_lexer.specs.Token.{Token}

-- An item that begins a text begins every longer text, with as many continuations before it.
abbrev pub KeepsItems : Type 0
KeepsItems = (mode : Mode) (text more : List ℕ) (x : Lexed × ℕ) → (progress mode text).item ≡ Some x →
    ((progress mode (text ++ more)).item ≡ Some x)
    × ((progress mode (text ++ more)).waits ≡ (progress mode text).waits)

-- A longer text has no fewer continuations due.
abbrev pub KeepsWaits : Type 0
KeepsWaits = (mode : Mode) (text more : List ℕ)
    → (progress mode text).waits ≤ (progress mode (text ++ more)).waits

-- What begins a text is a line or a fault, and takes some of the text's octets.
abbrev pub TakesOctets : Type 0
TakesOctets = (mode : Mode) (text : List ℕ) (x : Lexed × ℕ) → (progress mode text).item ≡ Some x →
    IsItem x.0 × (0 < x.1) × (x.1 ≤ length text)

-- A text that no item begins is shorter than what may be held.
abbrev pub LeavesRoom : Type 0
LeavesRoom = (mode : Mode) (text : List ℕ) → (progress mode text).item ≡ None → length text < held_limit

-- How far a text leads from a stage on is what comes of the stage: the bound on the stages changes nothing.
abbrev pub GoesByStages : Type 0
GoesByStages = (mode : Mode) (stage : Stage) (text : List ℕ) → octets_of stage ≤ length text →
    progress_from mode stage text
    ≡ progress_by (λ next. progress_from mode next text) (step_of mode stage text)

-- A part is read to its end: its octets are a bound on its tokens, and a greater bound changes nothing.
abbrev pub ReadsParts : Type 0
ReadsParts = (most end : ℕ) (seen : List Token) (text : List ℕ) → length text ≤ most →
    part_within most end seen text ≡ part_within (length text) end seen text

-- What is printed between quotes is read back as that string, whatever follows.
abbrev pub ReadsQuoted : Type 0
ReadsQuoted = (text rest : List ℕ) → IsTrue (may_quote text) →
    token_at (quoted_form text ++ rest) ≡ Ok (record { kind = kinds.Quoted; value = text }, rest)

-- A text that is written so is read as that line, with `waits` continuations due before it, whatever follows.
abbrev pub ReadsSpellings : Type 0
ReadsSpellings = (mode : Mode) (text rest : List ℕ) (tokens : List Token) (waits : ℕ)
    → IsSpelling mode tokens waits text →
    progress mode (text ++ rest) ≡ record { waits = waits; item = Some (Line tokens, length text) }

-- What is read as a line is written so: no other text is.
abbrev pub SpellsLines : Type 0
SpellsLines = (mode : Mode) (text : List ℕ) (tokens : List Token) (octets : ℕ)
    → (progress mode text).item ≡ Some (Line tokens, octets) →
    IsSpelling mode tokens (progress mode text).waits (take octets text)
