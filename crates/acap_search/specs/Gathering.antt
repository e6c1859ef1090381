-- What a walk gathers: words of private contracts.
use Rattle.std.specs.Prelude.{◌≡◌, ℕ, ◌+◌, ◌-◌, List, [], ◌++◌, length, take, Option, None, Some, map as each}
use Rattle.std.specs.List.{cons_option}
use Rattle.acap_entries.specs.declared.row.Row.{Row}
use Rattle.acap_commands.specs.declared.search_modifiers.Limit.{Limit}
use Rattle.acap_search.specs.Cutting.{cut_of, most_told}
use Rattle.acap_search.specs.PathRefs.{untold}
use Rattle.acap_search.specs.Matches.{Match, match_lt, sorted_by}
use Rattle.acap_search.specs.Walks.{Walk, match_in}
use Rattle.acap_search.specs.declared.found_matches.FoundMatches.{FoundMatches}
use Rattle.acap_search.specs.declared.found_matches.FoundMatches.TheVariants.{Findings, Stands, First}
use Rattle.acap_search.specs.declared.answer.SearchAnswer.{SearchAnswer}
use Rattle.acap_search.specs.declared.first_rows.FirstRows.{FirstRows}
use Rattle.acap_search.specs.declared.row_limit.RowLimit.{RowLimit}
use Rattle.acap_search.specs.declared.row_limit.RowLimit.TheVariants as wish

-- the rows of matches
abbrev pub rows_of : List Match → List Row
rows_of matches = each (λ found. found.row) matches

abbrev pub told_of : ℕ → List Match → FirstRows
told_of most matches = record { rows = take most (rows_of matches); most = most; count = length matches }

-- none yet, and with some matches more, of which those after the first `most` are counted alone
abbrev pub none_told : ℕ → FirstRows
none_told most = record { rows = []; most = most; count = 0 }

abbrev pub told_with : FirstRows → List Match → FirstRows
told_with told more = record {
  rows = told.rows ++ take (told.most - told.count) (rows_of more);
  most = told.most;
  count = told.count + length more;
}

-- nothing yet, where matches come in the order in which they are sent, and where they don't
abbrev pub none_in_order : RowLimit → FoundMatches
none_in_order wish.All = Findings []
none_in_order (wish.First limit) = First (none_told (most_told limit))

abbrev pub none_in_turn : RowLimit → FoundMatches
none_in_turn wish.All = Findings []
none_in_turn (wish.First None) = Findings []
none_in_turn (wish.First (Some limit)) = Stands []

-- with some matches more
unfoldable pub with_more : FoundMatches → List Match → FoundMatches
with_more (Findings found) more = Findings (found ++ more)
with_more (Stands found) more = Stands (found ++ each untold more)
with_more (First told) more = First (told_with told more)

-- with one match more, if there is one
abbrev pub with_one : FoundMatches → Option Match → FoundMatches
with_one found one = with_more found (cons_option one [])

-- put in order
abbrev pub put_in_order : FoundMatches → FoundMatches
put_in_order (Findings found) = Findings (sorted_by match_lt found)
put_in_order (Stands found) = Stands (sorted_by match_lt found)
put_in_order (First told) = First told

-- how many there are
abbrev pub count_of : FoundMatches → ℕ
count_of (Findings found) = length found
count_of (Stands found) = length found
count_of (First told) = told.count

-- the matches themselves
abbrev pub all_in : FoundMatches → List Match
all_in (Findings found) = found
all_in (Stands found) = []
all_in (First told) = []

-- the rows of the first of it: where nothing is sent yet they are made of the entries at its paths
abbrev pub rows_at : Walk → List Match → List Row
rows_at quest found = each (λ found. (match_in quest found.path).row) found

abbrev pub first_in : Walk → ℕ → FoundMatches → List Row
first_in quest most (Findings found) = rows_of (take most found)
first_in quest most (Stands found) = rows_at quest (take most found)
first_in quest most (First told) = take most told.rows

-- what is sent of it, where LIMIT may keep some back
abbrev pub excerpt_in : Walk → Option Limit → FoundMatches → SearchAnswer
excerpt_in quest limit found = record {
  rows = first_in quest (cut_of limit (count_of found)).told found;
  total = (cut_of limit (count_of found)).total;
}

-- what is gathered of some matches: all of them, or enough to send the first
abbrev pub IsFirst : Option Limit → FoundMatches → List Match → Type 0
IsFirst limit (Findings found) matches = found ≡ matches
IsFirst limit (Stands found) matches = found ≡ each untold matches
IsFirst limit (First told) matches = told ≡ told_of (most_told limit) matches

abbrev pub IsGathered : RowLimit → FoundMatches → List Match → Type 0
IsGathered wish.All found matches = found ≡ Findings matches
IsGathered (wish.First limit) found matches = IsFirst limit found matches
