-- The rows that are held of a context, and where they stand [RFC 2244 section 3.3].
use Rattle.std.specs.Prelude.{◌≡◌, ◌-◌, ◌&&◌, nat_le, ℕ, Bool, true, false, List, map, Option, Some, None}
use Rattle.std.specs.Prelude.{is_some, if◌then◌else◌}
use Rattle.std.specs.List.{find}
use Rattle.std.specs.FinMap as finite
use Rattle.acap_entries.specs.Orders.{octets_cmp, octets_eq}
use Rattle.acap_ordmap.specs.Sorted.{InOrder}
use Rattle.acap_grammar.specs.Printed.{PrintedRow, PrintedMap}
use Rattle.acap_client.specs.Following.{Held, Listed, Mapped}

abbrev pub keyed : List PrintedRow → List (List ℕ × PrintedRow)
keyed rows = map (λ row. (row.name, row)) rows

abbrev pub by_order : List PrintedRow → PrintedMap
by_order rows = finite.from_sorted (keyed rows)

-- of an enumerated context the rows in their order, of another those in the order of their names
abbrev pub held_in : Bool → List PrintedRow → Held
held_in true rows = Listed rows
held_in false rows = Mapped (by_order rows)

pub record IsInPlace (enumerated : Bool) (rows : List PrintedRow) : Type 0 where
  pub rises : enumerated ≡ false → InOrder octets_cmp (keyed rows)

abbrev pub is_enumerated : Held → Bool
is_enumerated (Listed rows) = true
is_enumerated (Mapped rows) = false

-- the rows that are held
abbrev pub rows_of : Held → List PrintedRow
rows_of (Listed rows) = rows
rows_of (Mapped rows) = finite.values rows

-- the row of an entry
abbrev pub row_in : List ℕ → Held → Option PrintedRow
row_in entry (Listed rows) = find (λ row. octets_eq entry row.name) rows
row_in entry (Mapped rows) = finite.get rows entry

-- with a row, where none of its name is held
abbrev pub with_first : PrintedRow → PrintedMap → PrintedMap
with_first row rows = if is_some (finite.get rows row.name) then rows else finite.insert rows row.name row

-- where a row stands at a position that is counted from 1
abbrev pub index_within : ℕ → ℕ → Option ℕ
index_within position len = if nat_le 1 position && nat_le position len then Some (position - 1) else None
