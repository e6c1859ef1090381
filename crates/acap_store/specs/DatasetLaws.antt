-- Which datasets there are after a command [RFC 2244 sections 3.1.1 and 4.1].
use Rattle.std.specs.Prelude.{◌≡◌, ℕ, zero, suc, ℤ, List, [], ◌∷◌, length, map, Bool, true, false, ◌||◌, find}
use Rattle.std.specs.Prelude.{Ok, codes}
use Rattle.std.specs.List.{list_any, list_all}
use Rattle.std.specs.Option.{option_map_or}
use Rattle.std.specs.FinMap as table
use Rattle.acap_entries.specs.Changes.{store_after}
use Rattle.acap_entries.specs.Datasets.{dataset_exists}
use Rattle.acap_entries.specs.FullPaths.{is_well_formed}
use Rattle.acap_entries.specs.Homes.{for_user}
use Rattle.acap_entries.specs.Names.{slash, begins_with, ends_with, is_user_name, own_entry}
use Rattle.acap_entries.specs.Orders.{octets_eq}
use Rattle.acap_entries.specs.Sound.{IsHoused, IsSoundStore}
use Rattle.acap_entries.specs.Store.{Store}
use Rattle.acap_entries.specs.declared.change.Change.{Change}
use Rattle.acap_entries.specs.declared.path.Path.{Path}
use Rattle.acap_commands.specs.declared.store.StoreEntry.{StoreEntry}
use Rattle.acap_rights.specs.declared.realm.Realm.{Realm}
use Rattle.acap_store.specs.Forms.{is_of}
use Rattle.acap_store.specs.Laws.{entries_of}
use Rattle.acap_store.specs.Meaning.{target_in, list_path}
use Rattle.acap_store.specs.Planning.{plan}
use Rattle.acap_store.specs.Refusing.{same_path}
use Rattle.acap_store.specs.declared.write.Write.{Write}
use Rattle.acap_store.specs.declared.write.Write.TheVariants as write

-- the own entry of a dataset, as a path
abbrev pub own_path : List ℕ × List ℕ → Path
own_path own = record { dataset = own.0; name = own.1 }

-- the datasets on the way to one: itself, its parent, and so on, but for `/`. Each parent's name is shorter,
-- so that as many steps as the name has octets are enough
abbrev pub way_within : ℕ → List ℕ → List (List ℕ)
way_within zero dataset = []
way_within (suc steps) dataset =
    option_map_or (λ own. dataset ∷ way_within steps own.0) (own_entry dataset) []

abbrev pub way_to : List ℕ → List (List ℕ)
way_to dataset = way_within (length dataset) dataset

-- the dataset is on the way to the path of an entry
abbrev pub is_on_way : List StoreEntry → List ℕ → Bool
is_on_way entries dataset =
    list_any (λ e. list_any (λ step. octets_eq dataset step) (way_to e.path.dataset)) entries

-- an entry of the command is the dataset's own, and gets a value for `subdataset`
abbrev pub gets_subdataset : StoreEntry → Bool
gets_subdataset e = list_any (is_of (codes "subdataset")) e.items

abbrev pub is_made_at : List StoreEntry → Path → Bool
is_made_at entries p = option_map_or gets_subdataset (find (λ e. same_path p e.path) entries) false

abbrev pub is_made : List StoreEntry → List ℕ → Bool
is_made entries dataset = option_map_or (λ own. is_made_at entries (own_path own)) (own_entry dataset) false

-- after a command there are the datasets that there were, those on
-- the way to its paths, and those that its items make. No other
abbrev pub DatasetLaw : Type 0
DatasetLaw = (s : Store) (realm : Realm) (user : List ℕ) (write : Write) (now : ℤ) (change : Change)
    → plan s realm user write now ≡ Ok change → IsHoused s.records →
    (dataset : List ℕ) → dataset_exists (store_after change s).records dataset
    ≡ (dataset_exists s.records dataset || is_on_way (entries_of s user write) dataset
    || is_made (entries_of s user write) dataset)

-- the way up from a dataset ends at `/`, as from each dataset that was read
abbrev pub reaches_within : ℕ → List ℕ → Bool
reaches_within zero dataset = false
reaches_within (suc steps) dataset =
    octets_eq dataset (slash ∷ [])
    || option_map_or (λ own. reaches_within steps own.0) (own_entry dataset) false

abbrev pub is_absolute : List ℕ → Bool
is_absolute dataset = reaches_within (length dataset) dataset

-- that is so of each dataset that begins and ends with a slash, and of what a user means by it
pub record RootLaw : Type 0 where
  pub closed : (dataset : List ℕ) → begins_with slash dataset ≡ true → ends_with slash dataset ≡ true
      → is_absolute dataset ≡ true
  pub meant : (user dataset : List ℕ) → begins_with slash dataset ≡ true → ends_with slash dataset ≡ true
      → is_absolute (for_user user dataset) ≡ true

-- so a command takes no dataset away, and the dataset of each
-- record exists afterwards too. That begins with the empty store
pub record HousedLaw : Type 0 where
  pub empty : IsHoused table.empty
  pub stays : (s : Store) (realm : Realm) (user : List ℕ) (write : Write) (now : ℤ) (change : Change)
      → plan s realm user write now ≡ Ok change → IsHoused s.records →
      (dataset : List ℕ) → dataset_exists s.records dataset ≡ true
      → dataset_exists (store_after change s).records dataset ≡ true
  pub housed : (s : Store) (realm : Realm) (user : List ℕ) (write : Write) (now : ℤ) (change : Change)
      → plan s realm user write now ≡ Ok change → IsHoused s.records →
      list_all (λ e. is_absolute e.path.dataset) (entries_of s user write) ≡ true
      → IsHoused (store_after change s).records

-- the paths that a command names, `~` standing where it was sent
abbrev pub paths_named : Write → List Path
paths_named (write.Store entries) = map (λ e. e.path) entries
paths_named (write.SetAcl object identifier letters) = list_path (target_in object) ∷ []
paths_named (write.DeleteAcl object identifier) = list_path (target_in object) ∷ []

-- the empty store is sound, and so is what commands leave that name
-- well-formed paths for a user with a name; no dataset is taken away
pub record SoundLaw : Type 0 where
  pub empty : IsSoundStore table.empty
  pub stays : (s : Store) (realm : Realm) (user : List ℕ) (write : Write) (now : ℤ) (change : Change)
      → plan s realm user write now ≡ Ok change → IsSoundStore s.records →
      (dataset : List ℕ) → dataset_exists s.records dataset ≡ true
      → dataset_exists (store_after change s).records dataset ≡ true
  pub sound : (s : Store) (realm : Realm) (user : List ℕ) (write : Write) (now : ℤ) (change : Change)
      → plan s realm user write now ≡ Ok change → IsSoundStore s.records →
      is_user_name user ≡ true → list_all is_well_formed (paths_named write) ≡ true
      → IsSoundStore (store_after change s).records
