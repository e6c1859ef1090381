-- What a command that writes means: the entries that it stores. SETACL and DELETEACL are the STORE, with
-- NOCREATE, of one access control list [RFC 2244 sections 4.1, 6.6.1 and 6.7].
use Rattle.std.specs.Prelude.{ℕ, List, [], ◌∷◌, map, Bool, true, false, Some, None}
use Rattle.acap_entries.specs.Homes.{for_user}
use Rattle.acap_entries.specs.Store.{Stored}
use Rattle.acap_entries.specs.declared.record.Cell.TheVariants.{Multi}
use Rattle.acap_entries.specs.declared.path.Path.{Path}
use Rattle.acap_commands.specs.declared.store.Given.{Given}
use Rattle.acap_commands.specs.declared.store.Given.TheVariants.{Put, Default}
use Rattle.acap_commands.specs.declared.object_name.ObjectName.{ObjectName}
use Rattle.acap_commands.specs.declared.object_name.ObjectName.TheVariants as object_name
use Rattle.acap_commands.specs.declared.store.StoreEntry.{StoreEntry}
use Rattle.acap_commands.specs.declared.store.StoreItem.{StoreItem}
use Rattle.acap_commands.specs.declared.store.StoreMetadata.TheVariants as metadata
use Rattle.acap_commands.specs.declared.store.StoreModifiers.{StoreModifiers}
use Rattle.acap_rights.specs.Deciding.{Target, OfDataset, OfAttribute, OfEntry, attribute_list_name}
use Rattle.acap_rights.specs.Deciding.{dataset_list_name, deciding_list}
use Rattle.acap_rights.specs.Edits.{with_pair, without}
use Rattle.acap_store.specs.declared.write.ResolvedWrite.{ResolvedWrite}
use Rattle.acap_store.specs.declared.write.Write.{Write}
use Rattle.acap_store.specs.declared.write.Write.TheVariants as write

-- ---- the entries of a STORE, `~` being replaced in each path

abbrev pub path_for : List ℕ → Path → Path
path_for user p = record p { dataset = for_user user p.dataset }

abbrev pub entry_for : List ℕ → StoreEntry → StoreEntry
entry_for user e = record e { path = path_for user e.path }

abbrev pub entries_for : List ℕ → List StoreEntry → List StoreEntry
entries_for user entries = map (entry_for user) entries

-- ---- the STORE of one list

-- what an object that is named is
abbrev pub target_in : ObjectName → Target
target_in (object_name.Dataset dataset) = OfDataset dataset
target_in (object_name.Attribute dataset attribute) = OfAttribute dataset attribute
target_in (object_name.Entry dataset attribute name) = OfEntry dataset attribute name

-- `~` being replaced in its dataset
abbrev pub target_for : List ℕ → ObjectName → Target
target_for user (object_name.Dataset dataset) = OfDataset (for_user user dataset)
target_for user (object_name.Attribute dataset attribute) = OfAttribute (for_user user dataset) attribute
target_for user (object_name.Entry dataset attribute name) = OfEntry (for_user user dataset) attribute name

-- the list of a dataset, and that of an attribute in it, are values of its management entry; that of an
-- entry's attribute is kept with the entry
abbrev pub list_path : Target → Path
list_path (OfDataset dataset) = record { dataset = dataset; name = [] }
list_path (OfAttribute dataset attribute) = record { dataset = dataset; name = [] }
list_path (OfEntry dataset attribute name) = record { dataset = dataset; name = name }

abbrev pub value_item : List ℕ → Given → StoreItem
value_item attribute given = record { attribute = attribute; metadata = metadata.Value; given = given }

abbrev pub list_item : Target → Given → StoreItem
list_item (OfDataset dataset) given = value_item dataset_list_name given
list_item (OfAttribute dataset attribute) given = value_item (attribute_list_name attribute) given
list_item (OfEntry dataset attribute name) given =
    record { attribute = attribute; metadata = metadata.Acl; given = given }

-- NOCREATE
abbrev pub no_create : StoreModifiers
no_create = record { no_create = true; unchanged_since = None }

abbrev pub entry_with : Path → StoreItem → StoreEntry
entry_with p item = record { path = p; modifiers = no_create; items = item ∷ [] }

abbrev pub management_entry : List ℕ → List ℕ → Given → StoreEntry
management_entry dataset attribute given =
    entry_with (list_path (OfDataset dataset)) (value_item attribute given)

abbrev pub list_entry : Target → Given → StoreEntry
list_entry target given = entry_with (list_path target) (list_item target given)

-- the whole list of a dataset
abbrev pub is_dataset_list : Target → Bool
is_dataset_list (OfDataset dataset) = true
is_dataset_list (OfAttribute dataset attribute) = false
is_dataset_list (OfEntry dataset attribute name) = false

abbrev pub list_store : Target → List (List ℕ) → ResolvedWrite
list_store target acl =
    record { entries = list_entry target (Put (Multi acl)) ∷ []; drops_dataset_list = false }

-- the list that decides at a target, with letters for an identifier, or without it
abbrev pub with_pair_in : Stored → Target → List ℕ → List ℕ → ResolvedWrite
with_pair_in records target identifier letters =
    list_store target (with_pair identifier letters (deciding_list records target))

abbrev pub set_in : Stored → ObjectName → List ℕ → List ℕ → ResolvedWrite
set_in records object identifier letters = with_pair_in records (target_in object) identifier letters

abbrev pub without_in : Stored → Target → List ℕ → ResolvedWrite
without_in records target identifier = list_store target (without identifier (deciding_list records target))

abbrev pub taken_off_in : Stored → ObjectName → List ℕ → ResolvedWrite
taken_off_in records object identifier = without_in records (target_in object) identifier

abbrev pub list_removal : Target → ResolvedWrite
list_removal target =
    record { entries = list_entry target Default ∷ []; drops_dataset_list = is_dataset_list target }

-- ---- each command. An edit starts from the list that decides
-- at the object: that is the list stored there, if one is

unfoldable pub meaning : Stored → List ℕ → Write → ResolvedWrite
meaning records user (write.Store entries) =
    record { entries = entries_for user entries; drops_dataset_list = false }
meaning records user (write.SetAcl object identifier letters) =
    with_pair_in records (target_for user object) identifier letters
meaning records user (write.DeleteAcl object (Some identifier)) =
    without_in records (target_for user object) identifier
meaning records user (write.DeleteAcl object None) = list_removal (target_for user object)
