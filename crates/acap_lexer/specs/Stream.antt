-- Which item begins a text, and how many synchronizing literals it follows before. An item is a line with its
-- tokens, a line with a fault, or a fault after which nothing is read. [RFC 2244, 2.2 and 2.6.3]
use Rattle.std.specs.Prelude.{ℕ, zero, suc, ◌+◌, List, [], ◌∷◌, ◌++◌, length, take, drop, Option, Some, None}
use Rattle.std.specs.Prelude.{option_map, Result, Ok, Err, nat_lt, ◌==◌, ◌&&◌, if◌then◌else◌, slice_index}
use Rattle.acap_lexer.specs.Octets.{carriage_return, line_feed}
use Rattle.acap_lexer.specs.declared.found.Announced.{Announced}
use Rattle.acap_lexer.specs.declared.found.PartEnd.{PartEnd}
use Rattle.acap_lexer.specs.declared.found.PartEnd.TheVariants.{At, Never, NotYet}
use Rattle.acap_lexer.specs.declared.fault.LexFault.{LexFault}
use Rattle.acap_lexer.specs.declared.fault.LexFault.TheVariants.{LineTooLong, CommandTooLong}
use Rattle.acap_lexer.specs.declared.kind.Kind.TheVariants as kinds
use Rattle.acap_lexer.specs.declared.lexed.Lexed.{Lexed}
use Rattle.acap_lexer.specs.declared.lexed.Lexed.TheVariants.{More, Plus, Line, Bad, Fatal}
use Rattle.acap_lexer.specs.declared.lexed.Mode.{Mode}
use Rattle.acap_lexer.specs.Token.{Token}
use Rattle.acap_lexer.specs.Reading.{Read}
use Rattle.acap_lexer.specs.Part.{Part, part_within, begun_at, tag_of}

-- the most octets of a part, its CR LF counted
abbrev pub part_limit : ℕ
part_limit = 8192

-- the most octets of a command, its literals and each CR LF counted
abbrev pub command_limit : ℕ
command_limit = 262144

-- where the first CR LF begins
unfoldable pub end_of : List ℕ → Option ℕ
end_of [] = None
end_of (c ∷ rest) = if c == carriage_return && slice_index rest 0 == line_feed then Some 0
    else option_map (λ n. n + 1) (end_of rest)

-- where a part ends: there, nowhere within the limit, or not yet
abbrev pub part_end_by : Option ℕ → ℕ → PartEnd
part_end_by (Some n) len = At n
part_end_by None len = if nat_lt len part_limit then NotYet else Never

unfoldable pub part_end : List ℕ → PartEnd
part_end text = part_end_by (end_of (take part_limit text)) (length text)

-- what has been read of a command: its tokens, and how many octets they took, each CR LF counted
pub record Front : Type 0 where
  pub tokens : List Token
  pub octets : ℕ

-- what comes next in a command: a part, or the octets of a literal, whose mark begins at the place `start`
pub data Stage : Type 0 where
  AtPart : Front → Stage
  InLiteral : ℕ → ℕ → Front → Stage

-- the stage at which a command begins
abbrev pub beginning : Stage
beginning = AtPart (record { tokens = []; octets = 0 })

-- how many octets of the command a stage has after it
abbrev pub octets_of : Stage → ℕ
octets_of (AtPart front) = front.octets
octets_of (InLiteral start count front) = front.octets

-- what comes of a stage: nothing yet, an item with the number of octets that it takes, or the next stage with
-- the number of continuations that are due before it
pub data Step : Type 0 where
  Waits : Step
  Ends : Lexed → ℕ → Step
  Goes : ℕ → Stage → Step

-- by the mark at the end of a part, if any; the part's text goes up to `end`, where its CR LF begins
abbrev pub step_by_mark : ℕ → List Token → Option (ℕ × Announced) → Step
step_by_mark end tokens None = Ends (Line tokens) (end + 2)
step_by_mark end tokens (Some m) =
    if nat_lt command_limit (end + 2 + m.1.count + 2) then Ends (Fatal CommandTooLong) (end + 2)
    else Goes (if m.1.waits then 1 else 0)
    (InLiteral m.0 m.1.count (record { tokens = tokens; octets = end + 2 }))

abbrev pub step_by_part : Option (List ℕ) → ℕ → Result Part LexFault → Step
step_by_part tag end (Err fault) = Ends (Bad fault tag) (end + 2)
step_by_part tag end (Ok part) = step_by_mark end part.tokens part.mark

abbrev pub step_by_front : Mode → ℕ → Read (List Token) → Step
step_by_front mode end (Err fault) = Ends (Bad fault None) (end + 2)
step_by_front mode end (Ok x) = step_by_part (tag_of mode x.0) end (part_within (length x.1) end x.0 x.1)

-- what a whole part says, without its CR LF
unfoldable pub step_of_part : Mode → Front → List ℕ → Step
step_of_part mode front part =
    let end = front.octets + length part in
    if nat_lt command_limit (end + 2) then Ends (Fatal CommandTooLong) (end + 2)
    else step_by_front mode end (begun_at mode front.tokens part)

abbrev pub step_by_end : Mode → Front → List ℕ → PartEnd → Step
step_by_end mode front text (At n) = step_of_part mode front (take n text)
step_by_end mode front text Never = Ends (Fatal LineTooLong) (front.octets + part_limit)
step_by_end mode front text NotYet = Waits

-- the token of a literal with these octets
abbrev pub literal_token : ℕ → ℕ → Front → List ℕ → Token
literal_token start count front octets =
    record { kind = kinds.Literal; value = octets; start = start; end = front.octets + count }

-- what comes of a stage of the command that begins the text
unfoldable pub step_of : Mode → Stage → List ℕ → Step
step_of mode (AtPart front) text =
    step_by_end mode front (drop front.octets text) (part_end (drop front.octets text))
step_of mode (InLiteral start count front) text =
    if nat_lt (length text) (front.octets + count) then Waits
    else Goes 0 (AtPart (record {
      tokens = front.tokens ++ literal_token start count front (take count (drop front.octets text)) ∷ [];
      octets = front.octets + count;
    }))

-- an item is a line, or a fault
abbrev pub IsItem : Lexed → Type 0
IsItem More = ⊥
IsItem Plus = ⊥
IsItem (Line tokens) = Unit {0}
IsItem (Bad fault tag) = Unit {0}
IsItem (Fatal fault) = Unit {0}

-- how far a text leads: how many continuations are due, and the item, if any, with how many octets it takes
pub record Progress : Type 0 where
  pub waits : ℕ
  pub item : Option (Lexed × ℕ)

abbrev pub nothing : Progress
nothing = record { waits = 0; item = None }

-- `n` continuations before it
abbrev pub waiting : ℕ → Progress → Progress
waiting n p = record { waits = n + p.waits; item = p.item }

abbrev pub progress_by : (Stage → Progress) → Step → Progress
progress_by go Waits = nothing
progress_by go (Ends item n) = record { waits = 0; item = Some (item, n) }
progress_by go (Goes n stage) = waiting n (go stage)

-- from a stage on; the number bounds the stages
unfoldable pub progress_within : ℕ → Mode → Stage → List ℕ → Progress
progress_within zero mode stage text = nothing
progress_within (suc most) mode stage text =
    progress_by (λ s. progress_within most mode s text) (step_of mode stage text)

-- each part has two octets at least, so that these are enough
unfoldable pub progress_from : Mode → Stage → List ℕ → Progress
progress_from mode stage text = progress_within (suc (suc (suc (length text)))) mode stage text

-- How far a text leads that begins with a command.
unfoldable pub progress : Mode → List ℕ → Progress
progress mode text = progress_from mode beginning text
