-- What stands first in the octets of a server, where a line may have `limit` octets [RFC 2244 section 2.2].
use Rattle.std.specs.Prelude.{ℕ, ◌+◌, List, [], ◌∷◌, Option, nat_lt, if◌then◌else◌}
use Rattle.acap_grammar.specs.Lines.{Line}
use Rattle.acap_grammar.specs.Listening.{Client, Place, Marked, Lost, heard}
use Rattle.acap_grammar.specs.Readable.{after}

pub data First : Type 0 where
  -- no line is whole yet
  NotYet : First
  -- a line, as what it says or as None if it says nothing, and how many octets it has
  Whole : Option Line → ℕ → First
  -- no line of a server begins so
  Astray : First
  -- the line is longer than the limit, or a literal is announced with which it is
  TooLong : First

-- what a client that has heard `at` octets of a line has come to, or what comes later
abbrev pub judged_by : ℕ → ℕ → List (Option Line) → Place → First → First
judged_by limit at (line ∷ lines) place later = Whole line at
judged_by limit at [] Lost later = Astray
judged_by limit at [] (Marked count) later = if nat_lt limit (at + count) then TooLong else later
judged_by limit at [] place later = later

abbrev pub judged : ℕ → ℕ → Client → First → First
judged limit at client later = judged_by limit at client.lines client.place later

-- the same of a client that has heard `at` octets of a line, and hears these
abbrev pub first_from : ℕ → ℕ → Client → List ℕ → First
first_from limit at client [] = NotYet
first_from limit at client (c ∷ rest) =
    if nat_lt at limit
    then judged limit (at + 1) (heard client c) (first_from limit (at + 1) (heard client c) rest)
    else TooLong

-- What stands first in these octets, of which no line has been heard.
unfoldable pub first_of : ℕ → List ℕ → First
first_of limit octets = first_from limit 0 (after []) octets
