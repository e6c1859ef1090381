-- What a user may neither read nor test, and what of it shows [RFC 2244 section 3.5].
use Rattle.std.specs.Prelude.{◌≡◌, ◌≢◌, ℕ, false, List, [], Some}
use Rattle.std.specs.FinMap as map
use Rattle.acap_entries.specs.Datasets.{makes_dataset}
use Rattle.acap_entries.specs.Store.{Stored}
use Rattle.acap_entries.specs.declared.record.Cell.{Cell}
use Rattle.acap_entries.specs.declared.path.Path.{Path}
use Rattle.acap_entries.specs.declared.record.Record.{Record}
use Rattle.acap_rights.specs.declared.realm.Realm.{Realm}
use Rattle.acap_search.specs.Fresh.{IsSameSight, sight_of, tuple_of, fresh_of, refusal_of}
use Rattle.acap_search.specs.Scopes.{Scope, scope_of}
use Rattle.acap_search.specs.Sight.{is_nil, may_test, rights_on}
use Rattle.acap_search.specs.declared.query.Query.{Query}
use Rattle.acap_search.specs.declared.query.SearchSpec.{SearchSpec}

-- two stores that differ in one cell alone: not of a management entry, a string or a list in both, stored at
-- one moment; its entry makes a dataset in both or in neither
pub record IsOneCellApart (old new : Stored) (path : Path) (attribute : List ℕ) : Type 0 where
  pub before : Record
  pub after : Record
  pub cell : Cell
  pub other : Cell
  pub had : map.get old path ≡ Some before
  pub has : map.get new path ≡ Some after
  pub held : map.get before.cells attribute ≡ Some cell
  pub holds : map.get after.cells attribute ≡ Some other
  pub some_cell : is_nil cell ≡ false
  pub some_other : is_nil other ≡ false
  pub paths : (p : Path) → p ≢ path → map.get old p ≡ map.get new p
  pub attributes : (a : List ℕ) → a ≢ attribute → map.get before.cells a ≡ map.get after.cells a
  pub acls : before.acls ≡ after.acls
  pub present : before.present ≡ after.present
  pub blocks_inheritance : before.blocks_inheritance ≡ after.blocks_inheritance
  pub modtime : before.modtime ≡ after.modtime
  pub datasets : makes_dataset before ≡ makes_dataset after
  pub entry : path.name ≢ []

-- and on which a user holds neither x nor r
pub record IsWithheld (old new : Stored) (realm : Realm) (user : List ℕ) (path : Path)
    (attribute : List ℕ) : Type 0 where
  pub apart : IsOneCellApart old new path attribute
  pub rights : may_test (rights_on old realm user attribute path.name path.dataset) ≡ false

-- the user sees the same in both, whatever is inherited, has the same
-- tuples, by which notices go, finds the same, and is refused the same
pub record WithheldLaw : Type 0 where
  pub sight : (old new : Stored) (realm : Realm) (user : List ℕ) (path : Path) (attribute : List ℕ)
      → IsWithheld old new realm user path attribute
      → (scope : Scope) → IsSameSight (sight_of old realm user scope) (sight_of new realm user scope)
  pub tuples : (old new : Stored) (realm : Realm) (user : List ℕ) (path : Path) (attribute : List ℕ)
      → IsWithheld old new realm user path attribute
      → (sought : SearchSpec) (p : Path)
      → tuple_of (sight_of old realm user (scope_of sought)) sought p
      ≡ tuple_of (sight_of new realm user (scope_of sought)) sought p
  pub fresh : (old new : Stored) (realm : Realm) (user : List ℕ) (path : Path) (attribute : List ℕ)
      → IsWithheld old new realm user path attribute
      → (sought : SearchSpec) → fresh_of (sight_of old realm user (scope_of sought)) sought
      ≡ fresh_of (sight_of new realm user (scope_of sought)) sought
  pub refusal : (old new : Stored) (realm : Realm) (user : List ℕ) (path : Path) (attribute : List ℕ)
      → IsWithheld old new realm user path attribute
      → (query : Query) → refusal_of old realm user query ≡ refusal_of new realm user query
