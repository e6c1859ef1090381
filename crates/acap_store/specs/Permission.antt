-- Which rights a STORE needs [RFC 2244 sections 3.5 and 6.6.1].
use Rattle.std.specs.Prelude.{ℕ, List, [], ◌∷◌, Bool, not, ◌&&◌, ◌||◌, codes, Option, Some, None, is_none}
use Rattle.std.specs.Prelude.{is_some, find, option_map, if◌then◌else◌}
use Rattle.std.specs.Option.{option_or, unwrap_or}
use Rattle.acap_entries.specs.Store.{Stored}
use Rattle.acap_entries.specs.declared.path.Path.{Path}
use Rattle.acap_commands.specs.declared.object_name.ObjectName.{ObjectName}
use Rattle.acap_commands.specs.declared.object_name.ObjectName.TheVariants as object_name
use Rattle.acap_commands.specs.declared.refusal.Refusal.{Refusal}
use Rattle.acap_commands.specs.declared.refusal.Refusal.TheVariants as refusals
use Rattle.acap_commands.specs.declared.store.StoreEntry.{StoreEntry}
use Rattle.acap_commands.specs.declared.store.StoreItem.{StoreItem}
use Rattle.acap_rights.specs.Deciding.{Target, OfDataset, OfAttribute, OfEntry, rights_of}
use Rattle.acap_rights.specs.Keeping.{target_of_list}
use Rattle.acap_rights.specs.declared.realm.Realm.{Realm}
use Rattle.acap_rights.specs.declared.rights.Rights.{Rights}
use Rattle.acap_store.specs.Forms.{is_management, is_value, resolved_at, exists_at}

-- ---- entries

abbrev pub entry_target : Path → Target
entry_target p = OfEntry p.dataset (codes "entry") p.name

-- an entry other than the management entry needs r on its `entry`, and w or i there where it doesn't exist
abbrev pub suffices_for_entry : Bool → Rights → Bool
suffices_for_entry exists rights = rights.r && (exists || rights.w || rights.i)

abbrev pub may_touch : Stored → Realm → List ℕ → Path → Bool
may_touch records realm user p =
    is_management p
    || suffices_for_entry (exists_at records p) (rights_of records realm user (entry_target p))

-- ---- items

-- the object whose list an item is: an `acl` is that of the entry's
-- attribute, and in the management entry some values are lists
abbrev pub list_target : Path → StoreItem → Option Target
list_target p item =
    if is_value item.metadata
    then (if is_management p then target_of_list p.dataset item.attribute else None)
    else Some (OfEntry p.dataset item.attribute p.name)

abbrev pub item_target : Path → StoreItem → Target
item_target p item = unwrap_or (list_target p item) (OfEntry p.dataset item.attribute p.name)

-- a list needs a on the object whose list it is; any other
-- value needs w, or i where what is there resolves to NIL
abbrev pub suffices_for_item : Bool → Bool → Rights → Bool
suffices_for_item is_list is_nil rights = if is_list then rights.a else rights.w || (is_nil && rights.i)

abbrev pub may_store : Stored → Realm → List ℕ → Path → StoreItem → Bool
may_store records realm user p item =
    suffices_for_item (is_some (list_target p item)) (is_none (resolved_at records p item.attribute))
    (rights_of records realm user (item_target p item))

-- ---- the first object on which rights are missing: in an entry its `entry` before its items

unfoldable pub denied_in : Stored → Realm → List ℕ → StoreEntry → Option Target
denied_in records realm user e =
    if may_touch records realm user e.path
    then option_map (item_target e.path)
    (find (λ item. not (may_store records realm user e.path item)) e.items)
    else Some (entry_target e.path)

-- the name of the entry that a target is of, or else the one given
abbrev pub name_in : List ℕ → Target → List ℕ
name_in name (OfDataset dataset) = name
name_in name (OfAttribute dataset attribute) = name
name_in name (OfEntry dataset attribute entry) = entry

-- named as a client names it
abbrev pub object_name_of : Target → ObjectName
object_name_of (OfDataset dataset) = object_name.Dataset dataset
object_name_of (OfAttribute dataset attribute) = object_name.Attribute dataset attribute
object_name_of (OfEntry dataset attribute name) = object_name.Entry dataset attribute name

abbrev pub permission_in : Stored → Realm → List ℕ → StoreEntry → Option Refusal
permission_in records realm user e =
    option_map (λ target. refusals.Permission (object_name_of target)) (denied_in records realm user e)

-- the first of all entries'
abbrev pub permission : Stored → Realm → List ℕ → List StoreEntry → Option Refusal
permission records realm user [] = None
permission records realm user (e ∷ entries) =
    option_or (permission_in records realm user e) (permission records realm user entries)
