-- What is made ready of a notice: words of private contracts.
use Rattle.std.specs.Prelude.{◌≡◌, ℕ, Bool, List, [], Option, Some, None}
use Rattle.std.specs.List.{cons_option}
use Rattle.std.specs.Option.{option_map, option_map_or}
use Rattle.acap_entries.specs.declared.path.Path.{Path}
use Rattle.acap_entries.specs.declared.row.Row.{Row}
use Rattle.acap_notices.specs.declared.notice.Notice.{Notice}
use Rattle.acap_moves.specs.Notices.{notice_between}
use Rattle.acap_search.specs.Matches.{Match}
use Rattle.acap_search.specs.Tuples.{name_told}
use Rattle.acap_search.specs.declared.query.SearchSpec.{SearchSpec}
use Rattle.acap_views.specs.Notices.{told_shape}
use Rattle.acap_views.specs.EntryUpdates.{from_one}
use Rattle.acap_views.specs.declared.entry_update.EntryOutcome.{EntryOutcome}
use Rattle.acap_views.specs.declared.entry_update.EntryOutcome.TheVariants.{Gone, Here}

abbrev pub name_in : EntryOutcome → List ℕ
name_in (Gone name) = name
name_in (Here found row) = row.name

abbrev pub come_in : EntryOutcome → Option Match
come_in (Gone name) = None
come_in (Here found row) = Some found

-- the name of what is found of an entry, and else the one by which it is sent
abbrev pub name_for : SearchSpec → Path → Option Match → List ℕ
name_for sought path found = option_map_or (λ m. m.row.name) found (name_told sought.depth path)

-- the row that is sent is that of the match
abbrev pub IsTold : EntryOutcome → Type 0
IsTold (Gone name) = Unit {0}
IsTold (Here found row) = row ≡ found.row

-- what is sent of an entry whose match has gone, if there was one, and of one that is found now
abbrev pub IsGoneNotice : Bool → List ℕ → Option (ℕ × Match) → Option Notice → Type 0
IsGoneNotice enumerated name gone told =
    cons_option told [] ≡ notice_between told_shape enumerated name (from_one gone) None

abbrev pub IsHereNotice : Bool → Row → Option (ℕ × Match) → Option ℕ → Option Notice → Type 0
IsHereNotice enumerated row gone come told =
    (found : Match) → row ≡ found.row
    → cons_option told []
    ≡ notice_between told_shape enumerated row.name (from_one gone)
    (from_one (option_map (λ place. (place, found)) come))
