-- The rows that a client holds of a context, one for each entry [RFC 2244 sections 3.3 and 6.4.1].
use Rattle.std.specs.Prelude.{ℕ, ◌+◌, ◌-◌, Bool, true, false, not, ◌&&◌, nat_le, IsTrue, List, [], ◌∷◌}
use Rattle.std.specs.Prelude.{length, map, Option, Some, None, slice_get}
use Rattle.std.specs.List.{list_any}
use Rattle.std.specs.FinMap as finite
use Rattle.acap_entries.specs.Orders.{octets_eq, octets_cmp}
use Rattle.acap_entries.specs.declared.row.Row.{Row}

-- whether a row of the entry is among them
abbrev pub is_held : List ℕ → List Row → Bool
is_held entry rows = list_any (λ row. octets_eq entry row.name) rows

-- whether there is such a row, and it is the entry's
abbrev pub is_of : List ℕ → Option Row → Bool
is_of entry None = false
is_of entry (Some row) = octets_eq entry row.name

-- whether the entry stands at the position; the first is 1
abbrev pub stands_at : List ℕ → ℕ → List Row → Bool
stands_at entry position rows = nat_le 1 position && is_of entry (slice_get rows (position - 1))

-- whether a row may be put in at the position: from 1 to one after the last
abbrev pub has_position : ℕ → List Row → Bool
has_position position rows = nat_le 1 position && nat_le position (length rows + 1)

-- no name comes twice
abbrev pub is_each_once : List Row → Bool
is_each_once [] = true
is_each_once (row ∷ rows) = not (is_held row.name rows) && is_each_once rows

pub record IsEachOnce (rows : List Row) : Type 0 where
  pub once : IsTrue (is_each_once rows)

-- rows by the names of their entries
abbrev pub RowMap : Type 0
RowMap = finite.FinMap octets_cmp Row

abbrev pub by_name : List Row → RowMap
by_name rows = finite.from_entries (map (λ row. (row.name, row)) rows)
