-- Examples of what a follower holds that reads octets.
use Rattle.std.specs.Prelude.{◌≡◌, ℕ, Bool, true, false, List, [], ◌∷◌, ◌++◌, codes, flat_map, Option, Some}
use Rattle.acap_commands.specs.Modifiers.{no_modifiers}
use Rattle.acap_commands.specs.Wanted.{One}
use Rattle.acap_commands.specs.declared.command.Command.{Command}
use Rattle.acap_commands.specs.declared.command.Command.TheVariants as command
use Rattle.acap_commands.specs.declared.search_modifiers.MakeContext.{MakeContext}
use Rattle.acap_commands.specs.declared.target.Target.TheVariants as target
use Rattle.acap_commands.specs.declared.test.Test.TheVariants as test
use Rattle.acap_grammar.specs.Lines.{Text}
use Rattle.acap_grammar.specs.Printed.{PrintedRow}
use Rattle.acap_grammar.specs.Replies.{crlf}
use Rattle.acap_client.specs.Following.{Follower, Kept, Listed, ask, follow_all, look_up, new}
use Rattle.acap_wire.specs.Seat.{lines_in}

-- lines as octets, and a follower that has read them
abbrev pub octets_of : List (List ℕ) → List ℕ
octets_of lines = flat_map (λ line. line ++ crlf) lines

abbrev pub reads : List (List ℕ) → Follower → Follower × List (List ℕ)
reads lines f = follow_all (lines_in (octets_of lines)) f

-- a SEARCH that makes a context of this name, with positions
abbrev pub making : List ℕ → MakeContext
making name = record { enumerate = true; notify = true; name = name }

abbrev pub search : List ℕ → Command
search name = command.Search (
    record {
      target = target.Dataset (codes "/a/");
      modifiers = record no_modifiers { make_context = Some (making name) };
      key = One test.All;
    })

abbrev pub c : List ℕ
c = codes "c"

abbrev pub d : List ℕ
d = codes "d"

abbrev pub row : List ℕ → List ℕ → PrintedRow
row name value = record { name = name; items = Text value ∷ [] }

abbrev pub listed : List PrintedRow → Bool → Option Kept
listed rows complete = Some (record { held = Listed rows; complete = complete; freed = false })

-- what is held of a context then
abbrev pub held_of : List ℕ → Follower × List (List ℕ) → Option Kept
held_of name read = look_up name read.0.contexts

-- an entry `x` or `y` with a value
abbrev pub x : List ℕ → PrintedRow
x value = row (codes "x") value

abbrev pub y : List ℕ → PrintedRow
y value = row (codes "y") value

-- a SEARCH under A1 that finds one entry
abbrev pub found : List (List ℕ)
found =
    codes "A1 ENTRY \"x\" \"1\"" ∷ codes "A1 MODTIME \"20260101000000000000\""
    ∷ codes "A1 OK \"SEARCH done\"" ∷ []

abbrev pub searching : Follower
searching = ask (codes "A1") (search c) new

abbrev pub one : Follower
one = (reads found searching).0

-- one more under A2, that finds none
abbrev pub two : Follower
two = (reads (codes "A2 OK \"SEARCH done\"" ∷ []) (ask (codes "A2") (search d) one)).0

-- the reply to an UPDATECONTEXT of both under A3
abbrev pub updated : List (List ℕ)
updated =
    codes "* ADDTO \"c\" \"y\" 1 \"2\"" ∷ codes "* MODTIME \"c\" \"20260101000000000001\""
    ∷ codes "* ADDTO \"d\" \"y\" 1 \"2\"" ∷ codes "* MODTIME \"d\" \"20260101000000000001\""
    ∷ codes "A3 OK \"UPDATECONTEXT done\"" ∷ []

-- a drain, and a notice whose string is a literal of three octets
abbrev pub drained : List (List ℕ)
drained = codes "* REMOVEFROM \"c\" \"x\" 1" ∷ []

abbrev pub literal : List (List ℕ)
literal = codes "* CHANGE \"c\" \"x\" 1 1 {3}" ∷ codes "2\"3" ∷ []

pub record WireExamples : Type 0 where
  -- the context is held with the entry that was found
  pub made : held_of c (reads found searching) ≡ listed (x (codes "1") ∷ []) false
  -- an UPDATECONTEXT of two contexts: each is complete at its MODTIME, and no line is a misfit
  pub first : held_of c (reads updated two) ≡ listed (y (codes "2") ∷ x (codes "1") ∷ []) true
  pub second : held_of d (reads updated two) ≡ listed (y (codes "2") ∷ []) true
  pub fit : (reads updated two).1 ≡ []
  -- a drain sends no MODTIME
  pub after_drain : held_of c (reads drained one) ≡ listed [] false
  -- what is read of a literal
  pub after_literal : held_of c (reads literal one) ≡ listed (x (codes "2\"3") ∷ []) false
