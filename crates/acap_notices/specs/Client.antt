-- What a client that was sent a notice then holds; None where the notice doesn't fit what it holds
-- [RFC 2244 sections 3.3 and 6.5].
use Rattle.std.specs.Prelude.{◌≡◌, ℕ, ◌-◌, List, [], ◌∷◌, Option, Some, None, is_some, if◌then◌else◌}
use Rattle.std.specs.List.{insert, remove}
use Rattle.std.specs.Option.{option_and_then}
use Rattle.std.specs.FinMap as finite
use Rattle.acap_entries.specs.declared.row.Row.{Row}
use Rattle.acap_notices.specs.Rows.{is_held, stands_at, has_position, by_name, RowMap}
use Rattle.acap_notices.specs.declared.notice.Notice.{Notice}
use Rattle.acap_notices.specs.declared.notice.Notice.TheVariants.{AddTo, RemoveFrom, Change}

-- with a row put in at a position
abbrev pub put_at : ℕ → Row → List Row → Option (List Row)
put_at position row rows = if has_position position rows then Some (insert rows (position - 1) row) else None

-- without the entry that stands at a position
abbrev pub taken_from : ℕ → List ℕ → List Row → Option (List Row)
taken_from position entry rows =
    if stands_at entry position rows then Some (remove rows (position - 1)) else None

-- a client of an enumerated context holds a list: an entry that is added isn't
-- held yet, one that is removed or changed stands at the old position, and the
-- new position of one that is changed is counted when it has been taken out
unfoldable pub listed_after : List Row → Notice → Option (List Row)
listed_after rows (AddTo position row) = if is_held row.name rows then None else put_at position row rows
listed_after rows (RemoveFrom entry position) = taken_from position entry rows
listed_after rows (Change from to row) = option_and_then (put_at to row) (taken_from from row.name rows)

-- a client of another context holds a map, and passes positions
-- over: an entry that is added isn't held yet, any other is
unfoldable pub mapped_after : RowMap → Notice → Option RowMap
mapped_after rows (AddTo position row) =
    if is_some (finite.get rows row.name) then None else Some (finite.insert rows row.name row)
mapped_after rows (RemoveFrom entry position) =
    if is_some (finite.get rows entry) then Some (finite.remove rows entry) else None
mapped_after rows (Change from to row) =
    if is_some (finite.get rows row.name) then Some (finite.insert rows row.name row) else None

-- one thing after the other, as long as each fits
abbrev pub in_turn : {S N : Type 0} → (S → N → Option S) → S → List N → Option S
in_turn after held [] = Some held
in_turn after held (notice ∷ notices) =
    option_and_then (λ next. in_turn after next notices) (after held notice)

-- the rows that a list, or a map of them, has after a notice; and that the notice doesn't fit them
abbrev pub ListLeads : List Row → Notice → List Row → Type 0
ListLeads rows notice new = listed_after rows notice ≡ Some new

abbrev pub ListMisfits : List Row → Notice → Type 0
ListMisfits rows notice = listed_after rows notice ≡ None

abbrev pub MapLeads : List Row → Notice → List Row → Type 0
MapLeads rows notice new = mapped_after (by_name rows) notice ≡ Some (by_name new)

abbrev pub MapMisfits : List Row → Notice → Type 0
MapMisfits rows notice = mapped_after (by_name rows) notice ≡ None
