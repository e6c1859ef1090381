-- What a search finds, and in which order [RFC 2244 section 6.4.1].
use Rattle.std.specs.Prelude.{Bool, List, [], ◌∷◌, Option, Some, None, refl, if◌then◌else◌}
use Rattle.std.specs.Coded.{Coded, code_by, coded×, coded_list}
use Rattle.std.specs.Ordering.{is_lt, ordering_then}
use Rattle.std.specs.declared.cmp.Ordering.{Ordering}
use Rattle.acap_entries.specs.FullPaths.{full_path_cmp}
use Rattle.acap_entries.specs.declared.path.Path.{Path}
use Rattle.acap_entries.specs.declared.row.Row.{Row}
use Rattle.acap_entries.specs.contracts.path.Path as path
use Rattle.acap_entries.specs.contracts.row.Row as row
use Rattle.acap_commands.specs.declared.search_modifiers.SortItem.{SortItem}
use Rattle.acap_search.specs.Places.{places_cmp}
use Rattle.acap_search.specs.declared.sort_term.SortTerm.{SortTerm}
use Rattle.acap_search.specs.contracts.sort_term.SortTerm as place

-- an entry that is wanted: where it is, where it stands for each item of SORT, and what is sent of it
pub record Match : Type 0 where
  pub path : Path
  pub places : List SortTerm
  pub row : Row

-- by the places for SORT, and then by the full path in octets
abbrev pub match_cmp : Match → Match → Ordering
match_cmp a b = ordering_then (places_cmp a.places b.places) (full_path_cmp a.path b.path)

-- how places and a path stand to a match
abbrev pub standing_cmp : List SortTerm → Path → Match → Ordering
standing_cmp places path other = match_cmp (record { path = path; places = places; row = other.row }) other

abbrev pub match_lt : Match → Match → Bool
match_lt a b = is_lt (match_cmp a b)

-- in order by a test, equal ones as they came
abbrev pub put_by : {X : Type 0} → (X → X → Bool) → X → List X → List X
put_by lt x [] = x ∷ []
put_by lt x (y ∷ ys) = if lt y x then y ∷ put_by lt x ys else x ∷ y ∷ ys

abbrev pub sorted_from : {X : Type 0} → (X → X → Bool) → List X → List X
sorted_from lt [] = []
sorted_from lt (x ∷ xs) = put_by lt x (sorted_from lt xs)

unfoldable pub sorted_by : {X : Type 0} → (X → X → Bool) → List X → List X
sorted_by lt xs = sorted_from lt xs

-- matches that come in the order of their paths, or in that of a
-- context: SORT reorders them, and without it they stay as they come
abbrev pub ordered_by : Option (List SortItem) → List Match → List Match
ordered_by None matches = matches
ordered_by (Some sort) matches = sorted_by match_lt matches

-- how matches are told apart in proofs
abbrev pub match_code : Coded Match
match_code =
    code_by (Path × (List SortTerm × Row))
    (coded× path.the_row.coded (coded× (coded_list place.the_row.coded) row.the_row.coded))
    (λ m. (m.path, (m.places, m.row))) (λ p. record { path = p.0; places = p.1.0; row = p.1.1 }) (λ _. refl)
