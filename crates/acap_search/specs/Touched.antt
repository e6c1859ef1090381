-- What a change leaves as it is for a search: the entries that
-- it doesn't touch [RFC 2244 sections 5.1, 5.2 and 6.4.1].
use Rattle.std.specs.Prelude.{◌≡◌, ◌↔◌, ℕ, true, false, List}
use Rattle.std.specs.List.{Contains}
use Rattle.acap_entries.specs.Datasets.{dataset_exists}
use Rattle.acap_entries.specs.Sound.{IsSoundStore}
use Rattle.acap_entries.specs.Store.{Stored, Written, IsPathByPath}
use Rattle.acap_entries.specs.declared.path.Path.{Path}
use Rattle.acap_inherit.specs.Touched.{is_touched}
use Rattle.acap_rights.specs.declared.realm.Realm.{Realm}
use Rattle.acap_search.specs.Fresh.{sight_of, tuple_of}
use Rattle.acap_search.specs.Scopes.{Scope, scope_of, datasets_of}
use Rattle.acap_search.specs.declared.query.SearchSpec.{SearchSpec}

-- writes lead from one sound store to another, and take no dataset away
pub record AreSoundWrites (written : Written) (old new : Stored) : Type 0 where
  pub paths : IsPathByPath written old new
  pub before : IsSoundStore old
  pub after : IsSoundStore new
  pub stays : (dataset : List ℕ) → dataset_exists old dataset ≡ true → dataset_exists new dataset ≡ true

-- A path that a change doesn't touch is in sight before it exactly where it is afterwards, and has the same
-- tuple: the same row and the same places. A dataset that existed is looked through before exactly where it
-- is afterwards; where the searched one existed, no other is.
pub record TouchedLaw : Type 0 where
  pub sight : (written : Written) (old new : Stored) → AreSoundWrites written old new
      → (realm : Realm) (user : List ℕ) (scope : Scope) (path : Path)
      → is_touched written old new path ≡ false
      → Contains (sight_of old realm user scope).paths path
      ↔ Contains (sight_of new realm user scope).paths path
  pub tuples : (written : Written) (old new : Stored) → AreSoundWrites written old new
      → (realm : Realm) (user : List ℕ) (sought : SearchSpec) (path : Path)
      → is_touched written old new path ≡ false
      → tuple_of (sight_of old realm user (scope_of sought)) sought path
      ≡ tuple_of (sight_of new realm user (scope_of sought)) sought path
  pub datasets : (written : Written) (old new : Stored) → AreSoundWrites written old new
      → (scope : Scope) (dataset : List ℕ) → dataset_exists old dataset ≡ true
      → Contains (datasets_of old scope) dataset ↔ Contains (datasets_of new scope) dataset
  pub only : (written : Written) (old new : Stored) → AreSoundWrites written old new
      → (scope : Scope) → dataset_exists old scope.dataset ≡ true
      → (dataset : List ℕ) → Contains (datasets_of old scope) dataset → dataset_exists old dataset ≡ true
