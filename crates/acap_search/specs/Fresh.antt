-- What a user sees in a scope, and what a search finds there [RFC 2244 sections 3.5, 5.2 and 6.4.1].
use Rattle.std.specs.Prelude.{◌≡◌, ℕ, Bool, true, false, not, ◌&&◌, ◌||◌, nat_lt, List, length, flat_map}
use Rattle.std.specs.Prelude.{Option, Some, None, Result, Ok, Err, if◌then◌else◌, map as each}
use Rattle.std.specs.List.{filter, filter_map, list_any, Contains}
use Rattle.std.specs.Ordering.{is_lt}
use Rattle.acap_entries.specs.Datasets.{dataset_exists}
use Rattle.acap_entries.specs.FullPaths.{full_path_cmp}
use Rattle.acap_entries.specs.Orders.{octets_eq}
use Rattle.acap_entries.specs.Store.{Stored}
use Rattle.acap_entries.specs.declared.path.Path.{Path}
use Rattle.acap_commands.specs.Wanted.{Wanted, One, And, Or, Not}
use Rattle.acap_commands.specs.declared.test.Test.{Test}
use Rattle.acap_commands.specs.declared.test.Test.TheVariants as test
use Rattle.acap_inherit.specs.Chains.{chain_of}
use Rattle.acap_inherit.specs.EntryNames.{names_on}
use Rattle.acap_rights.specs.declared.realm.Realm.{Realm}
use Rattle.acap_search.specs.Matches.{Match, sorted_by, ordered_by}
use Rattle.acap_search.specs.Rows.{attributes_at, stars_of}
use Rattle.acap_search.specs.Scopes.{Scope, scope_of, datasets_of}
use Rattle.acap_search.specs.Sight.{Answers, answers_at, is_seen}
use Rattle.acap_search.specs.Tuples.{tuple_for}
use Rattle.acap_search.specs.declared.query.Query.{Query}
use Rattle.acap_search.specs.declared.query.SearchSpec.{SearchSpec}
use Rattle.acap_search.specs.declared.refusal.SearchRefusal.{SearchRefusal}
use Rattle.acap_search.specs.declared.refusal.SearchRefusal.TheVariants as refusal

-- all that a search may depend on: the paths of the entries that are seen, the four answers about each, and
-- among which attributes of each all are that have a value which is read
pub record Sight : Type 0 where
  pub paths : List Path
  pub answers : Path → Answers
  pub attributes : Path → List (List ℕ)

-- two entries are seen alike where the four answers about every attribute are the same
pub record IsSameAnswers (a b : Answers) : Type 0 where
  pub read : (attribute : List ℕ) → a.read attribute ≡ b.read attribute
  pub test : (attribute : List ℕ) → a.test attribute ≡ b.test attribute
  pub acl : (attribute : List ℕ) → a.acl attribute ≡ b.acl attribute
  pub rights : (attribute : List ℕ) → a.rights attribute ≡ b.rights attribute

-- two sights are equal where the paths are, and at each of them
-- the answers; which attributes were tried is no part of that
pub record IsSameSight (a b : Sight) : Type 0 where
  pub paths : a.paths ≡ b.paths
  pub answers : (path : Path) → Contains a.paths path → IsSameAnswers (a.answers path) (b.answers path)

-- the answers about the entry at a path, along the chain of its dataset
abbrev pub answers_on : Stored → Realm → List ℕ → Bool → Path → Answers
answers_on records realm user no_inherit path =
    answers_at records realm user path.dataset (chain_of records path.dataset no_inherit) path.name

-- the paths in a dataset, and in all datasets of a scope, at which a record is or may be inherited
abbrev pub paths_in : Stored → Bool → List ℕ → List Path
paths_in records no_inherit dataset =
    each (λ name. record { dataset = dataset; name = name })
    (names_on records (chain_of records dataset no_inherit))

abbrev pub paths_of : Stored → Scope → List Path
paths_of records scope = flat_map (paths_in records scope.no_inherit) (datasets_of records scope)

abbrev pub full_path_lt : Path → Path → Bool
full_path_lt a b = is_lt (full_path_cmp a b)

-- the sight of a user in a scope; its paths ascend in octets
abbrev pub sight_of : Stored → Realm → List ℕ → Scope → Sight
sight_of records realm user scope = record {
  paths = sorted_by full_path_lt
      (filter (λ path. is_seen (answers_on records realm user scope.no_inherit path))
      (paths_of records scope));
  answers = answers_on records realm user scope.no_inherit;
  attributes = λ path. attributes_at records path.name (chain_of records path.dataset scope.no_inherit);
}

-- whether a path is among some
abbrev pub same_path : Path → Path → Bool
same_path a b = octets_eq a.dataset b.dataset && octets_eq a.name b.name

abbrev pub is_among : List Path → Path → Bool
is_among paths path = list_any (same_path path) paths

-- the tuple of a path: what is made of the entry there. Out of the
-- scope, out of sight, and where the key doesn't want it, there is none
abbrev pub tuple_of : Sight → SearchSpec → Path → Option Match
tuple_of sight sought path =
    if is_among sight.paths path
    then tuple_for sought None path (sight.answers path)
    (stars_of (sight.answers path).read (sight.attributes path))
    else None

-- what a search finds: the tuples of all paths in sight, in order. LIMIT and HARDLIMIT have no part in it
abbrev pub fresh_of : Sight → SearchSpec → List Match
fresh_of sight sought = ordered_by sought.sort (filter_map (tuple_of sight sought) sight.paths)

abbrev pub matches_of : Stored → Realm → List ℕ → SearchSpec → List Match
matches_of records realm user sought = fresh_of (sight_of records realm user (scope_of sought)) sought

-- ---- refusals

-- whether RANGE stands anywhere in a key
abbrev pub is_range : Test → Bool
is_range test.All = false
is_range (test.IsNil attribute comparator) = false
is_range (test.Meets relation attribute comparator wanted) = false
is_range (test.Range first last since) = true

abbrev pub has_range : Wanted → Bool
has_range (One t) = is_range t
has_range (And a b) = has_range a || has_range b
has_range (Or a b) = has_range a || has_range b
has_range (Not a) = has_range a

-- whether there are more matches than HARDLIMIT allows
abbrev pub is_over : Option ℕ → ℕ → Bool
is_over None count = false
is_over (Some most) count = nat_lt most count

-- why a search over a dataset is refused, by the first of these: a key that asks for positions, a
-- dataset that doesn't exist, more matches than HARDLIMIT
abbrev pub refusal_of : Stored → Realm → List ℕ → Query → Option SearchRefusal
refusal_of records realm user query =
    if has_range query.sought.key then Some refusal.RangeHere
    else if not (dataset_exists records query.sought.dataset) then Some refusal.NoExist
    else if is_over query.hard_limit (length (matches_of records realm user query.sought))
    then Some refusal.WayTooMany
    else None

-- what is answered to a search over a dataset: what holds of all matches, or why it is refused. Memory is
-- wanted only where the key and the dataset are right
abbrev pub IsAnswer : {X : Type 0} → Stored → Realm → List ℕ → Query → (X → List Match → Type 0)
    → Result X SearchRefusal → Type 0
IsAnswer records realm user query holds (Ok found) =
    (refusal_of records realm user query ≡ None) × holds found (matches_of records realm user query.sought)
IsAnswer records realm user query holds (Err refusal.RangeHere) =
    refusal_of records realm user query ≡ Some refusal.RangeHere
IsAnswer records realm user query holds (Err refusal.NoExist) =
    refusal_of records realm user query ≡ Some refusal.NoExist
IsAnswer records realm user query holds (Err refusal.TooOld) =
    refusal_of records realm user query ≡ Some refusal.TooOld
IsAnswer records realm user query holds (Err refusal.WayTooMany) =
    refusal_of records realm user query ≡ Some refusal.WayTooMany
IsAnswer records realm user query holds (Err refusal.Memory) =
    (has_range query.sought.key ≡ false) × (dataset_exists records query.sought.dataset ≡ true)
