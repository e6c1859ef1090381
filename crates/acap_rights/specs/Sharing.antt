-- The rights of a user on the attributes of a dataset, made
-- once for all of its entries [RFC 2244 section 3.5].
use Rattle.std.specs.Prelude.{◌≡◌, ℕ, nat_eq, List, [], ◌∷◌, drop, codes, Option, Some, None, if◌then◌else◌}
use Rattle.std.specs.FinMap as map
use Rattle.std.specs.List.{starts_with}
use Rattle.std.specs.Option.{option_map_or, unwrap_or}
use Rattle.acap_entries.specs.Orders.{octets_cmp}
use Rattle.acap_entries.specs.Store.{Stored}
use Rattle.acap_entries.specs.declared.record.Cell.{Cell}
use Rattle.acap_entries.specs.declared.record.Record.{Record}
use Rattle.acap_rights.specs.Deciding.{OfAttribute, OfEntry, list_in, own_list, rights_by_list, rights_of}
use Rattle.acap_rights.specs.declared.realm.Realm.{Realm}
use Rattle.acap_rights.specs.declared.rights.Rights.{Rights}
use Rattle.acap_rights.specs.declared.sharing.SharedRights.{SharedRights}

-- rights by attribute
abbrev pub Listed : Type 0
Listed = map.FinMap octets_cmp Rights

-- of which attribute an attribute of a management entry is the list: `dataset.acl.ATTRIBUTE`
abbrev pub named_by : List ℕ → Option (List ℕ)
named_by attribute = if starts_with nat_eq attribute (codes "dataset.acl.") then Some (drop 12 attribute)
    else None

-- the rights by the lists among the values of a management entry, beside those that are known
abbrev pub with_list : (List (List ℕ) → Rights) → List ℕ × Cell → Listed → Listed
with_list rights e listed =
    option_map_or
    (λ attribute. option_map_or (λ list. map.insert listed attribute (rights list)) (list_in e.1) listed)
    (named_by e.0) listed

abbrev pub listed_from : (List (List ℕ) → Rights) → List (List ℕ × Cell) → Listed → Listed
listed_from rights [] listed = listed
listed_from rights (e ∷ es) listed = listed_from rights es (with_list rights e listed)

abbrev pub by_list : Realm → List ℕ → List ℕ → List (List ℕ) → Rights
by_list realm user dataset list = rights_by_list realm user dataset (Some list)

unfoldable pub listed_in : Realm → List ℕ → List ℕ → Option Record → Listed
listed_in realm user dataset management =
    option_map_or (λ entry. listed_from (by_list realm user dataset) (map.entries entry.cells) map.empty)
    management map.empty

-- the rights on an attribute: those by its list, if it has one
abbrev pub shared_on : SharedRights → List ℕ → Rights
shared_on shared attribute = unwrap_or (map.get shared.listed attribute) shared.others

-- such rights are those of the user on each attribute of the dataset
abbrev pub AreShared : Stored → Realm → List ℕ → List ℕ → SharedRights → Type 0
AreShared records realm user dataset shared =
    (attribute : List ℕ) → rights_of records realm user (OfAttribute dataset attribute)
    ≡ shared_on shared attribute

-- the rights on an attribute of an entry are those on the attribute, but where the entry has a list for it
abbrev pub SharedLaw : Type 0
SharedLaw = (records : Stored) (realm : Realm) (user dataset attribute name : List ℕ)
    → own_list records (OfEntry dataset attribute name) ≡ None
    → rights_of records realm user (OfEntry dataset attribute name)
    ≡ rights_of records realm user (OfAttribute dataset attribute)
