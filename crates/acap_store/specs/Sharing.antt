-- Entries on whose attributes a user has the rights that their dataset shares: words of private contracts.
use Rattle.std.specs.Prelude.{◌≡◌, ℕ, List, Option, None}
use Rattle.std.specs.Option.{ForSome}
use Rattle.acap_entries.specs.Store.{Stored}
use Rattle.acap_entries.specs.declared.path.Path.{Path}
use Rattle.acap_rights.specs.Deciding.{OfEntry, own_list, rights_of}
use Rattle.acap_rights.specs.declared.realm.Realm.{Realm}
use Rattle.acap_rights.specs.Sharing.{shared_on}
use Rattle.acap_rights.specs.declared.sharing.SharedRights.{SharedRights}

-- no attribute of the entry has a list of its own
abbrev pub HasNoLists : Stored → Path → Type 0
HasNoLists records p = (attribute : List ℕ) → own_list records (OfEntry p.dataset attribute p.name) ≡ None

-- where there are such rights, they are those on each attribute of the entry
abbrev pub AreShared : Stored → Realm → List ℕ → Path → Option SharedRights → Type 0
AreShared records realm user p shared =
    ForSome shared (λ shared. (attribute : List ℕ)
    → rights_of records realm user (OfEntry p.dataset attribute p.name) ≡ shared_on shared attribute)
