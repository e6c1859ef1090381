-- What comes once in a sound store, and which datasets a search
-- looks through there [RFC 2244 sections 3.1, 3.1.1 and 6.4.1].
use Rattle.std.specs.Prelude.{◌≡◌, ◌≢◌, ◌↔◌, ◌⊎◌, ◌<◌, ℕ, true, List, [], ◌∷◌, ◌++◌, Some, map as each}
use Rattle.std.specs.List.{Contains}
use Rattle.std.specs.declared.cmp.Ordering.TheVariants.{Equal}
use Rattle.acap_entries.specs.Datasets.{dataset_exists}
use Rattle.acap_entries.specs.Names.{own_entry}
use Rattle.acap_entries.specs.Sound.{IsSoundStore}
use Rattle.acap_entries.specs.Store.{Stored}
use Rattle.acap_entries.specs.declared.path.Path.{Path}
use Rattle.acap_rights.specs.declared.realm.Realm.{Realm}
use Rattle.acap_search.specs.Fresh.{sight_of, fresh_of}
use Rattle.acap_search.specs.Matches.{Match, match_cmp}
use Rattle.acap_search.specs.Scopes.{Scope, scope_of, levels, datasets_of}
use Rattle.acap_search.specs.declared.query.SearchSpec.{SearchSpec}

-- each of a list comes once
abbrev pub EachOnce : {X : Type 0} → List X → Type 0
EachOnce [] = Unit {0}
EachOnce (x ∷ xs) = ¬ (Contains xs x) × EachOnce xs

-- a dataset lies beneath the searched one in the levels
-- that DEPTH reaches, and exists; its own entry has a name
pub record IsBeneath (records : Stored) (scope : Scope) (dataset : List ℕ) : Type 0 where
  pub depth : ℕ
  pub rest : List ℕ
  pub own : Path
  pub whole : scope.dataset ++ rest ≡ dataset
  pub deep : scope.depth ≡ Some depth
  pub within : (depth ≡ 0) ⊎ (levels rest < depth)
  pub entry : own_entry dataset ≡ Some (own.dataset, own.name)
  pub named : own.name ≢ []
  pub exists : dataset_exists records dataset ≡ true

-- a search looks through the dataset that is named, and through each
-- that lies beneath it so: through no other, and through each once
pub record ScopeLaw : Type 0 where
  pub members : (records : Stored) (scope : Scope) (dataset : List ℕ) → IsSoundStore records
      → dataset_exists records scope.dataset ≡ true
      → Contains (datasets_of records scope) dataset
      ↔ ((dataset ≡ scope.dataset) ⊎ IsBeneath records scope dataset)
  pub once : (records : Stored) (scope : Scope) → IsSoundStore records → EachOnce (datasets_of records scope)

-- what is in sight comes once, and so does each name of what is found; two matches that tie have one path
pub record OnceLaw : Type 0 where
  pub paths : (records : Stored) (realm : Realm) (user : List ℕ) (scope : Scope) → IsSoundStore records
      → EachOnce (sight_of records realm user scope).paths
  pub names : (records : Stored) (realm : Realm) (user : List ℕ) (sought : SearchSpec) → IsSoundStore records
      → dataset_exists records sought.dataset ≡ true
      → EachOnce
      (each (λ found. found.row.name) (fresh_of (sight_of records realm user (scope_of sought)) sought))
  pub ties : (records : Stored) (realm : Realm) (user : List ℕ) (sought : SearchSpec) → IsSoundStore records
      → dataset_exists records sought.dataset ≡ true
      → (a b : Match) → Contains (fresh_of (sight_of records realm user (scope_of sought)) sought) a
      → Contains (fresh_of (sight_of records realm user (scope_of sought)) sought) b
      → match_cmp a b ≡ Equal → a.path ≡ b.path
