-- What follows from the client's rule alone.
use Rattle.std.specs.Prelude.{◌≡◌, ℕ, ◌-◌, List, ◌++◌, Some, slice_get}
use Rattle.std.specs.List.{insert, remove}
use Rattle.std.specs.Option.{option_and_then}
use Rattle.acap_entries.specs.declared.row.Row.{Row}
use Rattle.acap_notices.specs.Rows.{IsEachOnce, by_name}
use Rattle.acap_notices.specs.Client.{listed_after, mapped_after}
use Rattle.acap_notices.specs.Holding.{Holding, holding_after_all}
use Rattle.acap_notices.specs.declared.notice.Notice.{Notice}
use Rattle.acap_notices.specs.declared.notice.Notice.TheVariants.{AddTo, RemoveFrom, Change}

-- joined lists of notices are applied one after the other
abbrev pub JoinedLaw : Type 0
JoinedLaw =
    (held : Holding) (first second : List Notice)
    → holding_after_all held (first ++ second)
    ≡ option_and_then (λ next. holding_after_all next second) (holding_after_all held first)

-- an entry that is added or changed stands at its new position with its new row, one that is removed or
-- changed stood at its old position, and all other entries are as they were, in their order
pub record PlacesLaw : Type 0 where
  pub added : (rows new : List Row) (position : ℕ) (row : Row)
      → listed_after rows (AddTo position row) ≡ Some new
      → (slice_get new (position - 1) ≡ Some row) × (remove new (position - 1) ≡ rows)
  pub removed : (rows new : List Row) (entry : List ℕ) (position : ℕ)
      → listed_after rows (RemoveFrom entry position) ≡ Some new
      → (gone : Row) × (gone.name ≡ entry) × (slice_get rows (position - 1) ≡ Some gone)
      × (insert new (position - 1) gone ≡ rows)
  pub changed : (rows new : List Row) (from to : ℕ) (row : Row)
      → listed_after rows (Change from to row) ≡ Some new
      → (gone : Row) × (gone.name ≡ row.name) × (slice_get rows (from - 1) ≡ Some gone)
      × (slice_get new (to - 1) ≡ Some row) × (remove new (to - 1) ≡ remove rows (from - 1))

-- where no name comes twice, none does afterwards
abbrev pub OnceLaw : Type 0
OnceLaw = (rows new : List Row) (notice : Notice) → IsEachOnce rows → listed_after rows notice ≡ Some new
    → IsEachOnce new

-- to change an entry is to remove it and then to add it
abbrev pub ChangeLaw : Type 0
ChangeLaw =
    (rows : List Row) (from to : ℕ) (row : Row) → IsEachOnce rows
    → listed_after rows (Change from to row)
    ≡ option_and_then (λ rest. listed_after rest (AddTo to row))
    (listed_after rows (RemoveFrom row.name from))

-- whoever passes positions over has the same rows by name as whoever heeds them
abbrev pub SameRowsLaw : Type 0
SameRowsLaw =
    (rows new : List Row) (notice : Notice) → IsEachOnce rows → listed_after rows notice ≡ Some new
    → mapped_after (by_name rows) notice ≡ Some (by_name new)
