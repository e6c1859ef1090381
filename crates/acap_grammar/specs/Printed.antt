-- What is sent of contexts, as it is printed: it can't be confused, and a client may hold it in place of rows
-- [RFC 2244 sections 3.3 and 6.5].
use Rattle.std.specs.Prelude.{◌≡◌, ℕ, ◌+◌, ◌-◌, Bool, false, ◌&&◌, nat_le, if◌then◌else◌, List, map, flat_map}
use Rattle.std.specs.Prelude.{length, slice_get, Option, Some, None, is_some}
use Rattle.std.specs.List.{AllByRecursion, insert, remove, list_any}
use Rattle.std.specs.Option.{option_map, option_and_then}
use Rattle.std.specs.FinMap as finite
use Rattle.acap_entries.specs.Orders.{octets_eq, octets_cmp}
use Rattle.acap_entries.specs.Stamp.{stamp_of}
use Rattle.acap_entries.specs.declared.row.Row.{Row}
use Rattle.acap_notices.specs.Client.{listed_after, mapped_after}
use Rattle.acap_notices.specs.Rows.{RowMap, by_name}
use Rattle.acap_notices.specs.declared.notice.Notice.{Notice}
use Rattle.acap_notices.specs.declared.notice.Notice.TheVariants as notice
use Rattle.acap_notices.specs.declared.told.Told.{Told}
use Rattle.acap_notices.specs.declared.told.Told.TheVariants as told
use Rattle.acap_grammar.specs.Lines.{Datum}
use Rattle.acap_grammar.specs.Replies.{tolds_form}
use Rattle.acap_grammar.specs.SaidLines.{row_data}
use Rattle.acap_grammar.specs.Sayable.{FitsU64, told_numbers}

-- a row as it is printed, and what is sent of a context
pub record PrintedRow : Type 0 where
  pub name : List ℕ
  pub items : List Datum

pub data PrintedNotice : Type 0 where
  AddTo : ℕ → PrintedRow → PrintedNotice
  RemoveFrom : List ℕ → ℕ → PrintedNotice
  Change : ℕ → ℕ → PrintedRow → PrintedNotice

pub data PrintedTold : Type 0 where
  Note : List ℕ → PrintedNotice → PrintedTold
  UpTo : List ℕ → List ℕ → PrintedTold
  Freed : List ℕ → PrintedTold

abbrev pub printed_row : Row → PrintedRow
printed_row row = record { name = row.name; items = row_data row }

abbrev pub printed_notice : Notice → PrintedNotice
printed_notice (notice.AddTo position row) = AddTo position (printed_row row)
printed_notice (notice.RemoveFrom entry position) = RemoveFrom entry position
printed_notice (notice.Change old new row) = Change old new (printed_row row)

-- the context, and the notice or the stamp
abbrev pub printed_told : Told → PrintedTold
printed_told (told.Note context notice) = Note context (printed_notice notice)
printed_told (told.Upto context moment) = UpTo context (stamp_of moment)
printed_told (told.Freed context) = Freed context

-- what a session may send of contexts: its positions, and how many octets it is printed with, have 64 bits
pub record IsTellable (tolds : List Told) : Type 0 where
  pub numbers : AllByRecursion FitsU64 (flat_map told_numbers tolds)
  pub fits : FitsU64 (length (tolds_form tolds))

-- What is printed alike is alike, one by one: contexts, entries, positions, printed data and stamps.
abbrev pub ApartLaw : Type 0
ApartLaw =
    (tolds others : List Told) → IsTellable tolds → IsTellable others → tolds_form tolds ≡ tolds_form others
    → map printed_told tolds ≡ map printed_told others

-- ---- a client that holds printed rows: its rule is that of a client that holds rows

abbrev pub is_held : List ℕ → List PrintedRow → Bool
is_held entry rows = list_any (λ row. octets_eq entry row.name) rows

abbrev pub is_of : List ℕ → Option PrintedRow → Bool
is_of entry None = false
is_of entry (Some row) = octets_eq entry row.name

abbrev pub put_at : ℕ → PrintedRow → List PrintedRow → Option (List PrintedRow)
put_at position row rows =
    if nat_le 1 position && nat_le position (length rows + 1)
    then Some (insert rows (position - 1) row) else None

abbrev pub taken_from : ℕ → List ℕ → List PrintedRow → Option (List PrintedRow)
taken_from position entry rows =
    if nat_le 1 position && is_of entry (slice_get rows (position - 1))
    then Some (remove rows (position - 1)) else None

-- of an enumerated context a list
unfoldable pub printed_list_after : List PrintedRow → PrintedNotice → Option (List PrintedRow)
printed_list_after rows (AddTo position row) =
    if is_held row.name rows then None else put_at position row rows
printed_list_after rows (RemoveFrom entry position) = taken_from position entry rows
printed_list_after rows (Change old new row) = option_and_then (put_at new row) (taken_from old row.name rows)

abbrev pub PrintedMap : Type 0
PrintedMap = finite.FinMap octets_cmp PrintedRow

abbrev pub printed_by_name : List PrintedRow → PrintedMap
printed_by_name rows = finite.from_entries (map (λ row. (row.name, row)) rows)

-- of another context a map
unfoldable pub printed_map_after : PrintedMap → PrintedNotice → Option PrintedMap
printed_map_after rows (AddTo position row) =
    if is_some (finite.get rows row.name) then None else Some (finite.insert rows row.name row)
printed_map_after rows (RemoveFrom entry position) =
    if is_some (finite.get rows entry) then Some (finite.remove rows entry) else None
printed_map_after rows (Change old new row) =
    if is_some (finite.get rows row.name) then Some (finite.insert rows row.name row) else None

-- under each name the printed form of the row, or nothing where there is none
pub record IsPrinted (rows : RowMap) (printed : PrintedMap) : Type 0 where
  pub each : (name : List ℕ) → finite.get printed name ≡ option_map printed_row (finite.get rows name)

-- both fit, and lead to such maps; or both don't fit
abbrev pub ArePrinted : Option RowMap → Option PrintedMap → Type 0
ArePrinted None None = Unit {0}
ArePrinted (Some rows) (Some printed) = IsPrinted rows printed
ArePrinted _ _ = ⊥

-- A client that holds printed rows goes along with one that holds rows, step by step, with the same misfits.
pub record PrintedLaw : Type 0 where
  pub listed : (rows : List Row) (notice : Notice)
      → printed_list_after (map printed_row rows) (printed_notice notice)
      ≡ option_map (map printed_row) (listed_after rows notice)
  pub started : (rows : List Row) → IsPrinted (by_name rows) (printed_by_name (map printed_row rows))
  pub mapped : (rows : RowMap) (printed : PrintedMap) (notice : Notice) → IsPrinted rows printed
      → ArePrinted (mapped_after rows notice) (printed_map_after printed (printed_notice notice))
