-- What a client holds of a context, whichever its kind [RFC 2244 section 3.3].
use Rattle.std.specs.Prelude.{◌≡◌, ◌⊎◌, Bool, true, false, List, Option, refl}
use Rattle.std.specs.Coded.{Coded, code_by, coded⊎, coded_list, coded_ℕ}
use Rattle.std.specs.FinMap as finite
use Rattle.std.specs.Option.{option_map}
use Rattle.std.proofs.Common.{inl, inr}
use Rattle.acap_entries.specs.declared.row.Row.{Row}
use Rattle.acap_entries.specs.contracts.row.Row as row
use Rattle.acap_notices.specs.Rows.{RowMap, by_name}
use Rattle.acap_notices.specs.Client.{listed_after, mapped_after, in_turn}
use Rattle.acap_notices.specs.declared.notice.Notice.{Notice}

-- of an enumerated context the rows in their order, of another the rows by name
pub data Holding : Type 0 where
  Listed : List Row → Holding
  Mapped : RowMap → Holding

-- what the client has that was given these rows, with positions or without
abbrev pub holding : Bool → List Row → Holding
holding true rows = Listed rows
holding false rows = Mapped (by_name rows)

-- whether these are the rows that are held: in their order, or in any
abbrev pub HasRows : Holding → List Row → Type 0
HasRows (Listed held) rows = rows ≡ held
HasRows (Mapped held) rows = by_name rows ≡ held

abbrev pub holding_after : Holding → Notice → Option Holding
holding_after (Listed rows) notice = option_map Listed (listed_after rows notice)
holding_after (Mapped rows) notice = option_map Mapped (mapped_after rows notice)

-- after a list of notices
abbrev pub holding_after_all : Holding → List Notice → Option Holding
holding_after_all = in_turn holding_after

abbrev pub in_parts : Holding → List Row ⊎ RowMap
in_parts (Listed rows) = inl rows
in_parts (Mapped rows) = inr rows

abbrev pub from_parts : List Row ⊎ RowMap → Holding
from_parts (inl rows) = Listed rows
from_parts (inr rows) = Mapped rows

abbrev pub parts_back : (held : Holding) → from_parts (in_parts held) ≡ held
parts_back (Listed rows) = refl
parts_back (Mapped rows) = refl

abbrev pub holding_code : Coded Holding
holding_code =
    code_by (List Row ⊎ RowMap)
    (coded⊎ (coded_list row.the_row.coded) (finite.code (coded_list coded_ℕ) row.the_row.coded)) in_parts
    from_parts parts_back
