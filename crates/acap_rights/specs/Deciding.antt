-- Which list decides at an object, and the rights that a user has there [RFC 2244 section 3.5].
use Rattle.std.specs.Prelude.{ℕ, true, false, if◌then◌else◌, List, [], ◌++◌, codes, Option, Some, None}
use Rattle.std.specs.Option.{option_and_then, option_or, unwrap_or}
use Rattle.std.specs.FinMap as map
use Rattle.acap_entries.specs.FullPaths.{path_of}
use Rattle.acap_entries.specs.Store.{Store, Stored}
use Rattle.acap_entries.specs.declared.record.Cell.{Cell}
use Rattle.acap_entries.specs.declared.record.Cell.TheVariants.{Nil, Single, Multi}
use Rattle.acap_entries.specs.declared.record.Record.{Record}
use Rattle.acap_rights.specs.Homes.{is_owner, default_list}
use Rattle.acap_rights.specs.Pairs.{rights_in}
use Rattle.acap_rights.specs.Realms.{is_administrator}
use Rattle.acap_rights.specs.Rights.{no_rights, all_rights, union}
use Rattle.acap_rights.specs.declared.object.Object.{Object}
use Rattle.acap_rights.specs.declared.object.Object.TheVariants as object
use Rattle.acap_rights.specs.declared.realm.Realm.{Realm}
use Rattle.acap_rights.specs.declared.rights.Rights.{Rights}

-- what rights are about: a dataset, an attribute in it, or that attribute of its entry of a name
pub data Target : Type 0 where
  OfDataset : List ℕ → Target
  OfAttribute : List ℕ → List ℕ → Target
  OfEntry : List ℕ → List ℕ → List ℕ → Target

-- what is lent as such
abbrev pub target_of : Object → Target
target_of (object.Dataset dataset) = OfDataset dataset.now
target_of (object.Attribute dataset attribute) = OfAttribute dataset.now attribute.now
target_of (object.Entry dataset attribute name) = OfEntry dataset.now attribute.now name.now

abbrev pub dataset_in : Target → List ℕ
dataset_in (OfDataset dataset) = dataset
dataset_in (OfAttribute dataset attribute) = dataset
dataset_in (OfEntry dataset attribute name) = dataset

-- a value as a list: NIL is none, and one string is a list in which nothing stands
abbrev pub list_in : Cell → Option (List (List ℕ))
list_in Nil = None
list_in (Single value) = Some []
list_in (Multi values) = Some values

-- the list that a record has as an attribute, and the one that it keeps for an attribute
abbrev pub list_as : List ℕ → Option Record → Option (List (List ℕ))
list_as attribute entry = option_and_then list_in (option_and_then (λ e. map.get e.cells attribute) entry)

abbrev pub list_for : List ℕ → Option Record → Option (List (List ℕ))
list_for attribute entry = option_and_then (λ e. map.get e.acls attribute) entry

-- the list that the management entry of a dataset has as an attribute
abbrev pub kept_list : Stored → List ℕ → List ℕ → Option (List (List ℕ))
kept_list records dataset attribute = list_as attribute (map.get records (path_of dataset []))

-- the list of the attribute in the entry's record
abbrev pub own_list : Stored → Target → Option (List (List ℕ))
own_list records (OfDataset dataset) = None
own_list records (OfAttribute dataset attribute) = None
own_list records (OfEntry dataset attribute name) =
    list_for attribute (map.get records (path_of dataset name))

-- the attributes of a management entry that are lists: of an attribute in the dataset, and of the dataset
abbrev pub attribute_list_name : List ℕ → List ℕ
attribute_list_name attribute = codes "dataset.acl." ++ attribute

abbrev pub dataset_list_name : List ℕ
dataset_list_name = codes "dataset.acl"

-- such a list of a management entry
abbrev pub attribute_list_in : List ℕ → Option Record → Option (List (List ℕ))
attribute_list_in attribute management = list_as (attribute_list_name attribute) management

abbrev pub dataset_list_in : Option Record → Option (List (List ℕ))
dataset_list_in management = list_as dataset_list_name management

-- the list of an attribute in a dataset, else that of the dataset
abbrev pub shared_list : Store → List ℕ → List ℕ → Option (List (List ℕ))
shared_list store dataset attribute =
    option_or (kept_list store.records dataset (attribute_list_name attribute))
    (kept_list store.records dataset dataset_list_name)

-- the list for the attribute in the dataset, `dataset.acl.ATTRIBUTE`
abbrev pub attribute_list : Stored → Target → Option (List (List ℕ))
attribute_list records (OfDataset dataset) = None
attribute_list records (OfAttribute dataset attribute) =
    kept_list records dataset (attribute_list_name attribute)
attribute_list records (OfEntry dataset attribute name) =
    kept_list records dataset (attribute_list_name attribute)

-- the list for the dataset, `dataset.acl`
abbrev pub dataset_list : Stored → Target → Option (List (List ℕ))
dataset_list records target = kept_list records (dataset_in target) dataset_list_name

-- the first of these that there is
abbrev pub stored_list : Stored → Target → Option (List (List ℕ))
stored_list records target =
    option_or (own_list records target)
    (option_or (attribute_list records target) (dataset_list records target))

-- decides, and else the default
unfoldable pub deciding_list : Stored → Target → List (List ℕ)
deciding_list records target = unwrap_or (stored_list records target) (default_list (dataset_in target))

-- the rights that no list takes away: an administrator has
-- all, the owner of a dataset may read and administer it
unfoldable pub implicit_rights : Realm → List ℕ → List ℕ → Rights
implicit_rights realm identifier dataset =
    if is_administrator realm identifier
    then all_rights
    else if is_owner identifier dataset then record { x = false; r = true; w = false; i = false; a = true }
    else no_rights

-- the rights of a user in a dataset by a stored list, if there is one
abbrev pub rights_by_list : Realm → List ℕ → List ℕ → Option (List (List ℕ)) → Rights
rights_by_list realm user dataset stored =
    union (rights_in realm user (unwrap_or stored (default_list dataset)))
    (implicit_rights realm user dataset)

-- the rights of a user
unfoldable pub rights_of : Stored → Realm → List ℕ → Target → Rights
rights_of records realm user target =
    union (rights_in realm user (deciding_list records target))
    (implicit_rights realm user (dataset_in target))

-- the same of a store and what is lent: the stored list, the one that decides, and the rights of a user
abbrev pub stored_at : Store → Object → Option (List (List ℕ))
stored_at store object = stored_list store.records (target_of object)

abbrev pub decided_at : Store → Object → List (List ℕ)
decided_at store object = deciding_list store.records (target_of object)

abbrev pub rights_at : Store → Realm → List ℕ → Object → Rights
rights_at store realm user object = rights_of store.records realm user (target_of object)
