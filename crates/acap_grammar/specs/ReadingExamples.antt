-- Octets and the lines that a client hears, computed from the definitions
-- [RFC 2244 sections 2.2, 2.6, 3.6 and 6].
use Rattle.std.specs.Prelude.{◌≡◌, ℕ, List, [], ◌∷◌, ◌++◌, length, codes, Option, Some, None}
use Rattle.acap_entries.specs.declared.record.Cell.TheVariants as cell
use Rattle.acap_entries.specs.declared.row.Item.TheVariants as item
use Rattle.acap_entries.specs.declared.row.Row.{Row}
use Rattle.acap_grammar.specs.Lines.{Datum, Word, Text, Empty, group, Failed}
use Rattle.acap_grammar.specs.Lines.{Line, Entry, AddTo, Change, Alert, Completion}
use Rattle.acap_grammar.specs.Listening.{Place, Returned, Lost, hears}
use Rattle.acap_grammar.specs.Readable.{after}
use Rattle.acap_grammar.specs.Replies.{crlf, item_form, row_form}
use Rattle.acap_grammar.specs.SaidLines.{item_datum, row_data}

-- the lines that a client has heard which hears these octets first, and where it is then
abbrev pub lines_in : List ℕ → List (Option Line)
lines_in octets = (hears (after []) octets).lines

abbrev pub place_after : List ℕ → Place
place_after octets = (hears (after []) octets).place

-- octets with CR LF are one line, which says this, or which says nothing
abbrev pub Says : List ℕ → Line → Type 0
Says octets line = lines_in (octets ++ crlf) ≡ Some line ∷ []

abbrev pub SaysNothing : List ℕ → Type 0
SaysNothing octets = lines_in (octets ++ crlf) ≡ None ∷ []

-- octets with CR LF are no line
abbrev pub IsNoLine : List ℕ → Type 0
IsNoLine octets = place_after (octets ++ crlf) ≡ Lost

-- what looks like a notice, in a string, and the line in which it stands as a literal
abbrev pub like_a_notice : List ℕ
like_a_notice = crlf ++ codes "* REMOVEFROM \"c\" \"a\" 1" ++ crlf

abbrev pub with_a_literal : List ℕ
with_a_literal = codes "A1 ENTRY \"a\" {26}" ++ crlf ++ like_a_notice

-- `(INVALID ("/a/b" "modtime"))`
abbrev pub invalid : Datum
invalid = group (Word (codes "INVALID") ∷ group (Text (codes "/a/b") ∷ Text (codes "modtime") ∷ []) ∷ [])

-- `("x" NIL)`, `(("k"))` and `()`
abbrev pub three_lists : List Datum
three_lists =
    group (Text (codes "x") ∷ Word (codes "NIL") ∷ []) ∷ group (group (Text (codes "k") ∷ []) ∷ [])
    ∷ Empty ∷ []

-- two lines, of which the second lacks its last octet
abbrev pub cut_line : List ℕ
cut_line = codes "* ALERT \"a\"" ++ crlf ++ codes "* ALERT \"b\"\r"

-- a row with a string, and it as an ENTRY that has a literal of 300,000 octets
abbrev pub long_row : List ℕ → Row
long_row text = record { name = codes "a"; items = item.One (cell.Single text) ∷ [] }

abbrev pub long_entry : List ℕ → List ℕ
long_entry text = codes "A1 ENTRY \"a\" {300000}" ++ crlf ++ text

pub record ReadingExamples : Type 0 where
  -- a `"` and a `\` in a string
  pub escapes : Says (codes "* ALERT \"a\\\"b\\\\c\"") (Alert (codes "a\"b\\c"))
  -- a literal that holds CR LF and what looks like a notice: one line, and none before its last octet
  pub literal : Says with_a_literal (Entry (Some (codes "A1")) (codes "a") (Text like_a_notice ∷ []))
  pub within : lines_in (with_a_literal ++ codes "\r") ≡ []
  pub empty_literal : Says (codes "* ALERT {0}" ++ crlf) (Alert [])
  -- a text with a code
  pub code : Says (codes "A1 NO (INVALID (\"/a/b\" \"modtime\")) \"Invalid value\"")
      (Completion (Some (codes "A1")) Failed (Some invalid) (codes "Invalid value"))
  -- two positions, and one where there is no space between them: that line says nothing
  pub positions : Says (codes "* CHANGE \"c\" \"a\" 1 4 NIL")
      (Change (codes "c") (codes "a") 1 4 (Word (codes "NIL") ∷ []))
  pub one_position : SaysNothing (codes "* CHANGE \"c\" \"a\" 14 NIL")
  -- a context's name as a word says nothing
  pub name_as_a_word : SaysNothing (codes "* REMOVEFROM c \"a\" 1")
  -- a list, a list in a list, an empty list
  pub lists : Says (codes "* ADDTO \"c\" \"a\" 0 (\"x\" NIL) ((\"k\")) ()")
      (AddTo (codes "c") (codes "a") 0 three_lists)
  -- an empty list, and a name with `*` that finds nothing, are printed alike and are the same datum
  pub printed_alike : item_form (item.One (cell.Multi [])) ≡ item_form (item.PerAttribute [])
  pub alike : item_datum (item.One (cell.Multi [])) ≡ item_datum (item.PerAttribute [])
  -- two lines, the second of which isn't whole
  pub cut : lines_in cut_line ≡ Some (Alert (codes "a")) ∷ []
  pub cut_place : place_after cut_line ≡ Returned
  -- a `"` without a `\` ends a string, and a mark that counts
  -- too few octets a literal; no space stands before `)`
  pub bare_quote : IsNoLine (codes "* ALERT \"a\"b\"")
  pub short_literal : IsNoLine (codes "* ALERT {2}" ++ crlf ++ codes "abc")
  pub space_before : IsNoLine (codes "* ADDTO \"c\" \"a\" 0 (\"x\" )")
  -- a string of 300,000 octets, whatever they are
  pub printed : (text : List ℕ) → length text ≡ 300000
      → row_form (codes "A1") (long_row text) ≡ long_entry text ++ crlf
  pub long : (text : List ℕ) → length text ≡ 300000
      → Says (long_entry text) (Entry (Some (codes "A1")) (codes "a") (row_data (long_row text)))
