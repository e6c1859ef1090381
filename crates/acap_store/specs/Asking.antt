-- Who asks, of what store, and about which entry: words of private contracts.
use Rattle.std.specs.Prelude.{◌≡◌, ℕ, Bool, not, List, Option, refl}
use Rattle.std.specs.Coded.{Coded, code_by, coded×, coded_ℕ, coded_list}
use Rattle.acap_entries.specs.Store.{Store, store_code}
use Rattle.acap_entries.specs.contracts.path.Path as path
use Rattle.acap_entries.specs.declared.path.Path.{Path}
use Rattle.acap_commands.specs.declared.refusal.Refusal.{Refusal}
use Rattle.acap_commands.specs.declared.store.StoreEntry.{StoreEntry}
use Rattle.acap_commands.specs.declared.store.StoreItem.{StoreItem}
use Rattle.acap_rights.specs.Deciding.{Target, OfEntry, dataset_in, rights_of}
use Rattle.acap_rights.specs.Sharing as rights
use Rattle.acap_rights.specs.contracts.realm.Realm as realm
use Rattle.acap_rights.specs.declared.realm.Realm.{Realm}
use Rattle.acap_rights.specs.declared.rights.Rights.{Rights}
use Rattle.acap_rights.specs.declared.sharing.SharedRights.{SharedRights}
use Rattle.acap_store.specs.Permission.{may_touch, may_store, denied_in, name_in, permission_in, permission}
use Rattle.acap_store.specs.Planning.{refusals_by_terms}
use Rattle.acap_store.specs.Refusing.{first_of}
use Rattle.acap_store.specs.Sharing.{AreShared}
use Rattle.acap_store.specs.declared.write.ResolvedWrite.{ResolvedWrite}

-- who asks, and of what store
pub record Asking : Type 0 where
  pub store : Store
  pub realm : Realm
  pub user : List ℕ

-- what the definitions say, asked so
abbrev pub rights_for : Asking → Target → Rights
rights_for asking target = rights_of asking.store.records asking.realm asking.user target

abbrev pub AreSharedIn : Asking → List ℕ → SharedRights → Type 0
AreSharedIn asking dataset shared =
    rights.AreShared asking.store.records asking.realm asking.user dataset shared

abbrev pub AreSharedAt : Asking → Path → Option SharedRights → Type 0
AreSharedAt asking p shared = AreShared asking.store.records asking.realm asking.user p shared

abbrev pub target_denied : Asking → StoreEntry → Option Target
target_denied asking e = denied_in asking.store.records asking.realm asking.user e

abbrev pub entry_refusal : Asking → StoreEntry → Option Refusal
entry_refusal asking e = permission_in asking.store.records asking.realm asking.user e

abbrev pub rights_refusal : Asking → List StoreEntry → Option Refusal
rights_refusal asking entries = permission asking.store.records asking.realm asking.user entries

abbrev pub terms_refusal : Asking → ResolvedWrite → Option Refusal
terms_refusal asking meant = first_of (refusals_by_terms asking.store.records asking.realm asking.user meant)

-- an entry that is asked about
pub record Matter : Type 0 where
  pub by : Asking
  pub path : Path

-- the rights on one of its attributes
abbrev pub rights_on : Matter → List ℕ → Rights
rights_on matter attribute = rights_for matter.by (OfEntry matter.path.dataset attribute matter.path.name)

abbrev pub may_be_touched : Matter → Bool
may_be_touched matter = may_touch matter.by.store.records matter.by.realm matter.by.user matter.path

abbrev pub may_be_stored : Matter → StoreItem → Bool
may_be_stored matter item = may_store matter.by.store.records matter.by.realm matter.by.user matter.path item

abbrev pub may_not_be_stored : Matter → StoreItem → Bool
may_not_be_stored matter item = not (may_be_stored matter item)

-- a target lies in the dataset of a path, and if it is of an entry, of that of the path
abbrev pub IsAt : Path → Target → Type 0
IsAt p target = (dataset_in target ≡ p.dataset) × (name_in p.name target ≡ p.name)

-- how these are told apart in proofs
abbrev pub asking_code : Coded Asking
asking_code =
    code_by (Store × (Realm × List ℕ)) (coded× store_code (coded× realm.the_row.coded (coded_list coded_ℕ)))
    (λ a. (a.store, (a.realm, a.user))) (λ p. record { store = p.0; realm = p.1.0; user = p.1.1 }) (λ _. refl)

abbrev pub matter_code : Coded Matter
matter_code =
    code_by (Asking × Path) (coded× asking_code path.the_row.coded) (λ m. (m.by, m.path))
    (λ p. record { by = p.0; path = p.1 }) (λ _. refl)
