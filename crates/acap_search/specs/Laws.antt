-- What follows from the definitions alone [RFC 2244 sections 3.4, 3.5 and 6.4.1].
use Rattle.std.specs.Prelude.{◌≡◌, ℕ, true, not, ◌&&◌, nat_eq, List, [], Some, None, if◌then◌else◌}
use Rattle.std.specs.Cmp.{IsTotalOrder}
use Rattle.std.specs.FinMap as map
use Rattle.std.specs.List.{filter_map, starts_with, Contains}
use Rattle.std.specs.List.Sorted.{IsPermutation, IsSortedBy}
use Rattle.std.specs.declared.cmp.Ordering.TheVariants.{Less}
use Rattle.acap_entries.specs.Store.{Stored}
use Rattle.acap_entries.specs.declared.record.Cell.TheVariants.{Nil, Single, Multi}
use Rattle.acap_entries.specs.declared.path.Path.{Path}
use Rattle.acap_inherit.specs.Chains.{chain_of}
use Rattle.acap_inherit.specs.Records.{record_at}
use Rattle.acap_order.specs.Ranks.{comparator_cmp}
use Rattle.acap_order.specs.declared.comparator.Comparator.{Comparator}
use Rattle.acap_rights.specs.declared.realm.Realm.{Realm}
use Rattle.acap_search.specs.Fresh.{Sight, answers_on, IsSameSight, sight_of, tuple_of, fresh_of}
use Rattle.acap_search.specs.Matches.{Match, match_cmp, match_lt}
use Rattle.acap_search.specs.Places.{place_in, place_cmp}
use Rattle.acap_search.specs.Rows.{stars_of, attributes_at}
use Rattle.acap_search.specs.Scopes.{Scope, scope_of, datasets_of}
use Rattle.acap_search.specs.Sight.{answers_at, is_nil, is_seen}
use Rattle.acap_search.specs.Tuples.{seen_tuple}
use Rattle.acap_search.specs.Views.{found_at, spot_in, view_of}
use Rattle.acap_search.specs.declared.query.SearchSpec.{SearchSpec}
use Rattle.acap_search.specs.declared.sort_term.SortTerm.TheVariants.{Behind}

-- a search finds the same in two stores, in the eyes of two users, where nothing but the four answers about
-- what they see in its scope is the same: each tuple, and so rows, places and which entries match
pub record SightLaw : Type 0 where
  pub tuples : (old new : Stored) (realm other : Realm) (user second : List ℕ) (sought : SearchSpec)
      → IsSameSight (sight_of old realm user (scope_of sought)) (sight_of new other second (scope_of sought))
      → (path : Path) → tuple_of (sight_of old realm user (scope_of sought)) sought path
      ≡ tuple_of (sight_of new other second (scope_of sought)) sought path
  pub fresh : (old new : Stored) (realm other : Realm) (user second : List ℕ) (sought : SearchSpec)
      → IsSameSight (sight_of old realm user (scope_of sought)) (sight_of new other second (scope_of sought))
      → fresh_of (sight_of old realm user (scope_of sought)) sought
      ≡ fresh_of (sight_of new other second (scope_of sought)) sought

-- a path out of the scope has no tuple, and any other the one that is made of the answers about its entry, if
-- that is seen; so what is made of an entry in the scope is its tuple
pub record TupleLaw : Type 0 where
  pub outside : (records : Stored) (realm : Realm) (user : List ℕ) (sought : SearchSpec) (path : Path)
      → ¬ (Contains (datasets_of records (scope_of sought)) path.dataset)
      → tuple_of (sight_of records realm user (scope_of sought)) sought path ≡ None
  pub inside : (records : Stored) (realm : Realm) (user : List ℕ) (sought : SearchSpec) (path : Path)
      → Contains (datasets_of records (scope_of sought)) path.dataset
      → tuple_of (sight_of records realm user (scope_of sought)) sought path
      ≡ seen_tuple sought None path (answers_on records realm user sought.no_inherit path)
      (stars_of (answers_on records realm user sought.no_inherit path).read
      (attributes_at records path.name (chain_of records path.dataset sought.no_inherit)))
  pub found : (records : Stored) (realm : Realm) (user : List ℕ) (sought : SearchSpec) (path : Path)
      → Contains (datasets_of records (scope_of sought)) path.dataset
      → found_at sought None (spot_in (view_of records realm user sought.no_inherit path.dataset) path.name)
      ≡ tuple_of (sight_of records realm user (scope_of sought)) sought path

-- what a search finds is what is matched, each as often, in
-- the order of the places and then of the full paths
pub record FreshLaw : Type 0 where
  pub all : (records : Stored) (realm : Realm) (user : List ℕ) (sought : SearchSpec)
      → IsPermutation
      (filter_map (tuple_of (sight_of records realm user (scope_of sought)) sought)
      (sight_of records realm user (scope_of sought)).paths)
      (fresh_of (sight_of records realm user (scope_of sought)) sought)
  pub order : (records : Stored) (realm : Realm) (user : List ℕ) (sought : SearchSpec)
      → IsSortedBy match_lt (fresh_of (sight_of records realm user (scope_of sought)) sought)
  pub untold : (sight : Sight) (sought : SearchSpec) (path : Path) (found : Match) → sought.returns ≡ None
      → tuple_of sight sought path ≡ Some found → found.row.items ≡ []

-- of the datasets that a search looks through exactly the entries that are seen are in sight
pub record SeenLaw : Type 0 where
  pub all : (records : Stored) (realm : Realm) (user : List ℕ) (scope : Scope) (path : Path)
      → Contains (datasets_of records scope) path.dataset
      → is_seen (answers_on records realm user scope.no_inherit path) ≡ true
      → Contains (sight_of records realm user scope).paths path
  pub only : (records : Stored) (realm : Realm) (user : List ℕ) (scope : Scope) (path : Path)
      → Contains (sight_of records realm user scope).paths path
      → Contains (datasets_of records scope) path.dataset
      × (is_seen (answers_on records realm user scope.no_inherit path) ≡ true)

-- a name with `*` lists exactly the attributes that begin
-- with what stands before it and have a value that is read
abbrev pub StarLaw : Type 0
StarLaw =
    (records : Stored) (realm : Realm) (user dataset : List ℕ) (chain : List (List ℕ))
    (name front attribute : List ℕ)
    → map.get
    (stars_of (answers_at records realm user dataset chain name).read (attributes_at records name chain)
    front) attribute
    ≡ (if starts_with nat_eq attribute front
    && not (is_nil ((answers_at records realm user dataset chain name).read attribute)) then Some true
    else None)

-- SORT orders strings as the comparator does; NIL and every list have one place after all strings, whatever
-- the sign; and the order of matches is total
pub record PlaceLaw : Type 0 where
  pub strings : (comparator : Comparator) (a b : List ℕ)
      → place_cmp (place_in comparator (Single a)) (place_in comparator (Single b))
      ≡ comparator_cmp comparator a b
  pub others : (comparator : Comparator) (a : List ℕ)
      → place_cmp (place_in comparator (Single a)) Behind ≡ Less
  pub nil : (comparator : Comparator) → place_in comparator Nil ≡ Behind
  pub list : (comparator : Comparator) (texts : List (List ℕ)) → place_in comparator (Multi texts) ≡ Behind
  pub total : IsTotalOrder match_cmp

-- the list that is sent of an attribute is that in the searched dataset:
-- where the entry has no record there none is sent, whatever is inherited
abbrev pub AclLaw : Type 0
AclLaw =
    (records : Stored) (realm : Realm) (user dataset : List ℕ) (chain : List (List ℕ))
    (name attribute : List ℕ)
    → record_at records dataset name ≡ None
    → (answers_at records realm user dataset chain name).acl attribute ≡ None
