-- What follows from the definitions alone.
use Rattle.std.specs.Prelude.{◌≡◌, ◌≢◌, ◌↔◌, ℕ, ◌<◌, true, false, ◌&&◌, List, [], ◌∷◌, ◌++◌, length, codes}
use Rattle.std.specs.Prelude.{Option, Some, None}
use Rattle.std.specs.FinMap as map
use Rattle.std.specs.List.{list_any, list_all}
use Rattle.std.specs.List.Sorted.{IsPermutation}
use Rattle.std.specs.Option.{is_some}
use Rattle.acap_entries.specs.FullPaths.{path_of}
use Rattle.acap_entries.specs.Names.{minus, has, components, group_prefix, is_user_name}
use Rattle.acap_entries.specs.Store.{Stored}
use Rattle.acap_entries.specs.declared.record.Cell.{Cell}
use Rattle.acap_entries.specs.declared.record.Cell.TheVariants.{Nil, Single, Multi}
use Rattle.acap_entries.specs.declared.record.Record.{Record}
use Rattle.acap_rights.specs.Deciding.{Target, OfDataset, OfAttribute, OfEntry, dataset_in}
use Rattle.acap_rights.specs.Deciding.{attribute_list_name, dataset_list_name, deciding_list, implicit_rights}
use Rattle.acap_rights.specs.Deciding.{rights_of}
use Rattle.acap_rights.specs.Edits.{is_about, without, with_pair}
use Rattle.acap_rights.specs.Homes.{home_of, is_owner, default_list}
use Rattle.acap_rights.specs.Keeping.{target_of_list}
use Rattle.acap_rights.specs.Pairs.{Pair, IsPair, string_of, pair_of, is_letter, is_acl, rights_given}
use Rattle.acap_rights.specs.Pairs.{rights_taken, rights_in}
use Rattle.acap_rights.specs.Realms.{names_in_group, is_administrator}
use Rattle.acap_rights.specs.Rights.{rights_by, no_rights, all_rights, less}
use Rattle.acap_rights.specs.declared.realm.Realm.{Realm}
use Rattle.acap_rights.specs.declared.rights.Rights.{Rights}

-- what a string says is the pair whose form it is, and a string that is no pair's form says nothing
abbrev pub PairLaw : Type 0
PairLaw = (text : List ℕ) (pair : Pair) → (pair_of text ≡ Some pair) ↔ IsPair text pair

abbrev pub rights_of_letters : List ℕ → Rights
rights_of_letters letters = rights_by (λ letter. has letter letters)

-- whom the pairs are about: a user's own, those of `anyone` and those of a group that has the user give their
-- letters or, with `-`, take them away; those of others do neither
pub record WhomLaw : Type 0 where
  pub own : (realm : Realm) (user letters : List ℕ) → is_user_name user ≡ true
      → list_all is_letter letters ≡ true
      → rights_given realm user (string_of user letters ∷ []) ≡ rights_of_letters letters
  pub shared : (realm : Realm) (user letters : List ℕ) → list_all is_letter letters ≡ true
      → rights_given realm user (string_of (codes "anyone") letters ∷ []) ≡ rights_of_letters letters
  pub own_taken : (realm : Realm) (user letters : List ℕ) → is_user_name user ≡ true
      → list_all is_letter letters ≡ true
      → rights_taken realm user (string_of (minus ∷ user) letters ∷ []) ≡ rights_of_letters letters
  pub shared_taken : (realm : Realm) (user letters : List ℕ) → list_all is_letter letters ≡ true
      → rights_taken realm user (string_of (codes "-anyone") letters ∷ []) ≡ rights_of_letters letters
  pub of_group : (realm : Realm) (user name letters : List ℕ) → is_user_name name ≡ true
      → names_in_group realm user (group_prefix ++ name) ≡ true
      → list_all is_letter letters ≡ true
      → rights_given realm user (string_of (group_prefix ++ name) letters ∷ [])
      ≡ rights_of_letters letters
  pub of_group_taken : (realm : Realm) (user name letters : List ℕ) → is_user_name name ≡ true
      → names_in_group realm user (group_prefix ++ name) ≡ true
      → list_all is_letter letters ≡ true
      → rights_taken realm user (string_of (minus ∷ group_prefix ++ name) letters ∷ [])
      ≡ rights_of_letters letters
  pub of_another : (realm : Realm) (user identifier letters : List ℕ) → identifier ≢ user
      → identifier ≢ codes "anyone" → names_in_group realm user identifier ≡ false
      → rights_given realm user (string_of identifier letters ∷ []) ≡ no_rights
  pub taken_from_another : (realm : Realm) (user identifier letters : List ℕ) → identifier ≢ user
      → identifier ≢ codes "anyone" → names_in_group realm user identifier ≡ false
      → rights_taken realm user (string_of (minus ∷ identifier) letters ∷ []) ≡ no_rights

-- the rights that stand in both
abbrev pub common : Rights → Rights → Rights
common p q = record { x = p.x && q.x; r = p.r && q.r; w = p.w && q.w; i = p.i && q.i; a = p.a && q.a }

-- what a string takes from a user is not given, whatever stands before and after it, unless it is implicit
pub record NegativeLaw : Type 0 where
  pub in_list : (realm : Realm) (user : List ℕ) (front back : List (List ℕ)) (text : List ℕ)
      → common (rights_in realm user (front ++ text ∷ back)) (rights_taken realm user (text ∷ [])) ≡ no_rights
  pub on_object : (records : Stored) (realm : Realm) (user : List ℕ) (target : Target)
      (front back : List (List ℕ)) (text : List ℕ)
      → deciding_list records target ≡ front ++ text ∷ back
      → common (less (rights_of records realm user target) (implicit_rights realm user (dataset_in target)))
      (rights_taken realm user (text ∷ [])) ≡ no_rights

-- the order of the strings makes no difference
abbrev pub OrderLaw : Type 0
OrderLaw = (realm : Realm) (user : List ℕ) (acl other : List (List ℕ)) → IsPermutation acl other
    → rights_in realm user acl ≡ rights_in realm user other

-- an administrator has all rights
abbrev pub AdministratorLaw : Type 0
AdministratorLaw = (records : Stored) (realm : Realm) (user : List ℕ) (target : Target)
    → is_administrator realm user ≡ true → rights_of records realm user target ≡ all_rights

-- the owner of a dataset may read and administer it. It is nobody but the user NAME of `/CLASS/user/NAME/`,
-- and the datasets beneath; who neither is the owner nor an administrator has no right but by a list
pub record OwnerLaw : Type 0 where
  pub reads : (records : Stored) (realm : Realm) (user : List ℕ) (target : Target)
      → is_owner user (dataset_in target) ≡ true → (rights_of records realm user target).r ≡ true
  pub administers : (records : Stored) (realm : Realm) (user : List ℕ) (target : Target)
      → is_owner user (dataset_in target) ≡ true → (rights_of records realm user target).a ≡ true
  pub nobody_else : (user dataset : List ℕ) → is_owner user dataset ≡ true
      → (home_of dataset ≡ Some user) × (is_user_name user ≡ true)
  pub home : (dataset name : List ℕ) → home_of dataset ≡ Some name
      → (class : List ℕ) × (others : List (List ℕ))
      × (components dataset ≡ class ∷ codes "user" ∷ name ∷ others)
  pub no_more : (realm : Realm) (user dataset : List ℕ) → is_administrator realm user ≡ false
      → is_owner user dataset ≡ true → implicit_rights realm user dataset ≡ rights_of_letters (codes "ra")
  pub no_other : (realm : Realm) (user dataset : List ℕ) → is_administrator realm user ≡ false
      → is_owner user dataset ≡ false → implicit_rights realm user dataset ≡ no_rights

-- where no list is kept: nothing or NIL
abbrev pub IsNone : Option Cell → Type 0
IsNone None = Unit {0}
IsNone (Some Nil) = Unit {0}
IsNone (Some (Single value)) = ⊥
IsNone (Some (Multi values)) = ⊥

-- which list decides: the entry's own, and without one that of the attribute in the
-- dataset, and without that the dataset's, and without that the default; each decides
-- also if it is empty, and NIL is none. One string decides as a list of nothing
pub record DecidingLaw : Type 0 where
  pub own : (records : Stored) (dataset attribute name : List ℕ) (entry : Record) (acl : List (List ℕ))
      → map.get records (path_of dataset name) ≡ Some entry → map.get entry.acls attribute ≡ Some acl
      → deciding_list records (OfEntry dataset attribute name) ≡ acl
  pub without_own : (records : Stored) (dataset attribute name : List ℕ)
      → ((entry : Record) → map.get records (path_of dataset name) ≡ Some entry
      → map.get entry.acls attribute ≡ None)
      → deciding_list records (OfEntry dataset attribute name)
      ≡ deciding_list records (OfAttribute dataset attribute)
  pub of_attribute : (records : Stored) (dataset attribute : List ℕ) (entry : Record) (acl : List (List ℕ))
      → map.get records (path_of dataset []) ≡ Some entry
      → map.get entry.cells (attribute_list_name attribute) ≡ Some (Multi acl)
      → deciding_list records (OfAttribute dataset attribute) ≡ acl
  pub without_attribute : (records : Stored) (dataset attribute : List ℕ)
      → ((entry : Record) → map.get records (path_of dataset []) ≡ Some entry
      → IsNone (map.get entry.cells (attribute_list_name attribute)))
      → deciding_list records (OfAttribute dataset attribute) ≡ deciding_list records (OfDataset dataset)
  pub of_dataset : (records : Stored) (dataset : List ℕ) (entry : Record) (acl : List (List ℕ))
      → map.get records (path_of dataset []) ≡ Some entry
      → map.get entry.cells dataset_list_name ≡ Some (Multi acl)
      → deciding_list records (OfDataset dataset) ≡ acl
  pub without_dataset : (records : Stored) (dataset : List ℕ)
      → ((entry : Record) → map.get records (path_of dataset []) ≡ Some entry
      → IsNone (map.get entry.cells dataset_list_name))
      → deciding_list records (OfDataset dataset) ≡ default_list dataset
  pub one_string : (records : Stored) (dataset : List ℕ) (entry : Record) (value : List ℕ)
      → map.get records (path_of dataset []) ≡ Some entry
      → map.get entry.cells dataset_list_name ≡ Some (Single value)
      → deciding_list records (OfDataset dataset) ≡ []

-- the attributes that are lists, and whose lists they are
pub record KeepingLaw : Type 0 where
  pub of_dataset : (dataset : List ℕ) → target_of_list dataset dataset_list_name ≡ Some (OfDataset dataset)
  pub of_attribute : (dataset attribute : List ℕ) → 0 < length attribute
      → target_of_list dataset (attribute_list_name attribute) ≡ Some (OfAttribute dataset attribute)
  pub no_attribute : (dataset : List ℕ) → target_of_list dataset (attribute_list_name []) ≡ None
  pub no_other : (dataset attribute : List ℕ) → attribute ≢ dataset_list_name
      → ((name : List ℕ) → 0 < length name → attribute ≢ attribute_list_name name)
      → target_of_list dataset attribute ≡ None

-- the letters of an identifier are set: they stand where its first string stood, or after all where there
-- was none; nothing else of it stays, and all strings of others stay in their order. Without an identifier
-- nothing of it stays. A list stays a list
pub record EditLaw : Type 0 where
  pub set_first : (identifier letters text : List ℕ) (front back : List (List ℕ))
      → list_any (is_about identifier) front ≡ false → is_about identifier text ≡ true
      → with_pair identifier letters (front ++ text ∷ back)
      ≡ front ++ string_of identifier letters ∷ without identifier back
  pub set_last : (identifier letters : List ℕ) (acl : List (List ℕ))
      → list_any (is_about identifier) acl ≡ false
      → with_pair identifier letters acl ≡ acl ++ string_of identifier letters ∷ []
  pub none_left : (identifier : List ℕ) (acl : List (List ℕ))
      → list_any (is_about identifier) (without identifier acl) ≡ false
  pub others_stay : (identifier letters : List ℕ) (acl : List (List ℕ))
      → is_some (pair_of (string_of identifier letters)) ≡ true
      → without identifier (with_pair identifier letters acl) ≡ without identifier acl
  pub unlisted : (identifier : List ℕ) (acl : List (List ℕ)) → list_any (is_about identifier) acl ≡ false
      → without identifier acl ≡ acl
  pub stays_list : (identifier letters : List ℕ) (acl : List (List ℕ)) → is_acl acl ≡ true
      → is_some (pair_of (string_of identifier letters)) ≡ true
      → is_acl (with_pair identifier letters acl) ≡ true
  pub stays_list_without : (identifier : List ℕ) (acl : List (List ℕ)) → is_acl acl ≡ true
      → is_acl (without identifier acl) ≡ true
