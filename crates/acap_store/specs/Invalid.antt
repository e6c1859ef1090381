-- What may not be stored [RFC 2244 sections 3.1.1, 3.5, 5.2 and 6.6.1].
use Rattle.std.specs.Prelude.{ℕ, List, [], ◌∷◌, ◌++◌, length, Bool, true, false, not, ◌&&◌, ◌||◌, ◌==◌}
use Rattle.std.specs.Prelude.{nat_eq, codes, Option, Some, None, is_some, find, option_map, if◌then◌else◌}
use Rattle.std.specs.List.{list_any, starts_with}
use Rattle.std.specs.Option.{option_or}
use Rattle.acap_entries.specs.Datasets.{is_dot_list}
use Rattle.acap_entries.specs.Names.{slash, is_dataset_argument}
use Rattle.acap_entries.specs.Orders.{octets_eq}
use Rattle.acap_entries.specs.Store.{Stored}
use Rattle.acap_entries.specs.declared.record.Cell.TheVariants.{Nil, Single, Multi}
use Rattle.acap_entries.specs.declared.path.Path.{Path}
use Rattle.acap_commands.specs.declared.store.Given.{Given}
use Rattle.acap_commands.specs.declared.store.Given.TheVariants.{Put, Default}
use Rattle.acap_commands.specs.declared.refusal.Refusal.{Refusal}
use Rattle.acap_commands.specs.declared.refusal.Refusal.TheVariants as refusals
use Rattle.acap_commands.specs.declared.store.StoreEntry.{StoreEntry}
use Rattle.acap_commands.specs.declared.store.StoreItem.{StoreItem}
use Rattle.acap_rights.specs.Pairs.{is_acl}
use Rattle.acap_store.specs.Forms.{is_management, is_value, is_nothing, resolved_at}
use Rattle.acap_store.specs.Permission.{list_target}
use Rattle.acap_store.specs.declared.write.ResolvedWrite.{ResolvedWrite}

-- ---- what may be given

-- the list (".")
abbrev pub is_dot : Given → Bool
is_dot (Put cell) = is_dot_list (Some cell)
is_dot Default = false

-- that string
abbrev pub is_string : List ℕ → Given → Bool
is_string text (Put Nil) = false
is_string text (Put (Single value)) = octets_eq value text
is_string text (Put (Multi values)) = false
is_string text Default = false

-- an access control list, NIL or DEFAULT
abbrev pub may_be_list : Given → Bool
may_be_list (Put Nil) = true
may_be_list (Put (Single value)) = false
may_be_list (Put (Multi acl)) = is_acl acl
may_be_list Default = true

-- the name of a dataset as a client sends it, NIL or DEFAULT
abbrev pub may_be_base : Given → Bool
may_be_base (Put Nil) = true
may_be_base (Put (Single value)) = is_dataset_argument value
may_be_base (Put (Multi values)) = false
may_be_base Default = true

-- ---- which entries may end

-- a path lies beneath an entry if it is in the dataset of the entry's name, or in one beneath that
abbrev pub lies_beneath : Path → Path → Bool
lies_beneath p other = starts_with nat_eq other.dataset (p.dataset ++ p.name ++ slash ∷ [])

-- an entry other than the management entry, which has no `subdataset`; nothing else is given to it, and no
-- other path of the command lies beneath it
abbrev pub may_end : Stored → List StoreEntry → StoreEntry → Bool
may_end records all e =
    (length e.items == 1) && not (is_management e.path)
    && not (is_some (resolved_at records e.path (codes "subdataset")))
    && not (list_any (λ other. lies_beneath e.path other.path) all)

-- ---- items

-- `entry` NIL or DEFAULT where the entry may end, and else its own name
abbrev pub may_be_entry : Stored → List StoreEntry → StoreEntry → Given → Bool
may_be_entry records all e given =
    if is_nothing given then may_end records all e else is_string e.path.name given

-- a value, by its attribute
abbrev pub may_be_value : Stored → List StoreEntry → StoreEntry → StoreItem → Bool
may_be_value records all e item =
    if octets_eq item.attribute (codes "subdataset") then is_dot item.given
    else (if octets_eq item.attribute (codes "entry") then may_be_entry records all e item.given
    else (if is_management e.path && octets_eq item.attribute (codes "dataset.inherit")
    then may_be_base item.given
    else true))

-- `modtime` is the server's; lists are lists
unfoldable pub is_invalid : Stored → List StoreEntry → StoreEntry → StoreItem → Bool
is_invalid records all e item =
    octets_eq item.attribute (codes "modtime")
    || (is_some (list_target e.path item) && not (may_be_list item.given))
    || (is_value item.metadata && not (may_be_value records all e item))

-- ---- the first of an entry's items, and of all entries'

abbrev pub is_refused : Stored → ResolvedWrite → StoreEntry → StoreItem → Bool
is_refused records meant e item = meant.drops_dataset_list || is_invalid records meant.entries e item

abbrev pub first_refused : Stored → ResolvedWrite → StoreEntry → Option StoreItem
first_refused records meant e = find (is_refused records meant e) e.items

abbrev pub invalid_in : Stored → ResolvedWrite → StoreEntry → Option Refusal
invalid_in records meant e =
    option_map (λ item. refusals.Invalid e.path item.attribute) (first_refused records meant e)

abbrev pub first_invalid : Stored → ResolvedWrite → List StoreEntry → Option Refusal
first_invalid records meant [] = None
first_invalid records meant (e ∷ entries) =
    option_or (invalid_in records meant e) (first_invalid records meant entries)

-- the list of a dataset may not be dropped as a whole: then the one item that says so is invalid
unfoldable pub invalid : Stored → ResolvedWrite → Option Refusal
invalid records meant = first_invalid records meant meant.entries
