-- What follows of the matches that a context lists [RFC 2244 sections 3.3 and 6.4.1].
use Rattle.std.specs.Prelude.{◌≡◌, ℕ, true, false, List, [], length, drop, Option, Some, None, map as each}
use Rattle.std.specs.List.{Contains}
use Rattle.acap_entries.specs.Datasets.{dataset_exists}
use Rattle.acap_entries.specs.FullPaths.{full_path}
use Rattle.acap_ordmap.specs.Ranks.{Ascending}
use Rattle.acap_entries.specs.Sound.{IsSoundStore}
use Rattle.acap_entries.specs.Store.{Stored}
use Rattle.acap_entries.specs.declared.path.Path.{Path}
use Rattle.acap_rights.specs.declared.realm.Realm.{Realm}
use Rattle.acap_search.specs.Fresh.{has_range, matches_of}
use Rattle.acap_search.specs.Matches.{Match, match_cmp}
use Rattle.acap_search.specs.Once.{EachOnce}
use Rattle.acap_search.specs.Within.{matches_within}
use Rattle.acap_search.specs.declared.query.SearchSpec.{SearchSpec}

-- under which name an entry is sent, by the octets of its full path: all of them where DEPTH was written,
-- else those after the searched dataset
abbrev pub name_by : Option ℕ → List ℕ → List ℕ → List ℕ
name_by None dataset full = drop (length dataset) full
name_by (Some depth) dataset full = full

-- in a sound store the matches of one search ascend strictly, so that no two stand in one place; no two have
-- one full path; and the name under which each is sent is one that its full path gives
pub record HitLaw : Type 0 where
  pub ascend : (records : Stored) (realm : Realm) (user : List ℕ) (sought : SearchSpec) → IsSoundStore records
      → dataset_exists records sought.dataset ≡ true
      → Ascending match_cmp (matches_of records realm user sought)
  pub paths : (records : Stored) (realm : Realm) (user : List ℕ) (sought : SearchSpec) → IsSoundStore records
      → dataset_exists records sought.dataset ≡ true
      → EachOnce (each (λ found. full_path found.path) (matches_of records realm user sought))
  pub names : (records : Stored) (realm : Realm) (user : List ℕ) (sought : SearchSpec) → IsSoundStore records
      → dataset_exists records sought.dataset ≡ true
      → (found : Match) → Contains (matches_of records realm user sought) found
      → found.row.name ≡ name_by sought.depth sought.dataset (full_path found.path)

-- a match as a search without SORT makes it
abbrev pub without_places : Match → Match
without_places found = record { path = found.path; places = []; row = found.row }

abbrev pub with_no_sort : SearchSpec → SearchSpec
with_no_sort sought = record sought { sort = None }

-- the paths that a context shows whose search was just made
abbrev pub shown_by : Stored → Realm → List ℕ → SearchSpec → List Path
shown_by records realm user sought = each (λ found. found.path) (matches_of records realm user sought)

-- over the list of a search, with nothing changed since and by that search's
-- own key, the same is found in the same order, without SORT and with the same
-- SORT. Such a key has no RANGE, since over a dataset there are no positions
pub record WithinLaw : Type 0 where
  pub plain : (records : Stored) (realm : Realm) (user : List ℕ) (sought : SearchSpec)
      → has_range sought.key ≡ false
      → matches_within records realm user (with_no_sort sought) (shown_by records realm user sought)
      ≡ each without_places (matches_of records realm user sought)
  pub ordered : (records : Stored) (realm : Realm) (user : List ℕ) (sought : SearchSpec)
      → has_range sought.key ≡ false
      → matches_within records realm user sought (shown_by records realm user sought)
      ≡ matches_of records realm user sought
