-- What a STORE writes [RFC 2244 sections 3.1, 3.1.1, 5.2 and 6.6.1].
use Rattle.std.specs.Prelude.{ℕ, zero, suc, ℤ, List, [], ◌∷◌, ◌++◌, length, Bool, true, false, ◌&&◌, Option}
use Rattle.std.specs.Prelude.{codes, flat_map, map, if◌then◌else◌}
use Rattle.std.specs.List.{list_any}
use Rattle.std.specs.Option.{option_map_or}
use Rattle.std.specs.FinMap as table
use Rattle.acap_entries.specs.Datasets.{dataset_exists}
use Rattle.acap_entries.specs.Homes.{for_user}
use Rattle.acap_entries.specs.Names.{own_entry, with_slash, is_dataset_argument}
use Rattle.acap_entries.specs.Orders.{octets_cmp, octets_eq}
use Rattle.acap_entries.specs.Store.{Store, Stored, Written, after_edit}
use Rattle.acap_entries.specs.declared.record.Cell.{Cell}
use Rattle.acap_entries.specs.declared.record.Cell.TheVariants.{Nil, Single, Multi}
use Rattle.acap_entries.specs.declared.change.RecordEdit.{RecordEdit}
use Rattle.acap_entries.specs.declared.change.RecordEdit.TheVariants as edit
use Rattle.acap_entries.specs.declared.path.Path.{Path}
use Rattle.acap_entries.specs.declared.record.Record.{Record}
use Rattle.acap_commands.specs.declared.store.Given.{Given}
use Rattle.acap_commands.specs.declared.store.Given.TheVariants.{Put, Default}
use Rattle.acap_commands.specs.declared.store.StoreEntry.{StoreEntry}
use Rattle.acap_commands.specs.declared.store.StoreItem.{StoreItem}
use Rattle.acap_store.specs.Forms.{is_management, is_value, is_of, is_ending}

abbrev pub Celled : Type 0
Celled = table.FinMap octets_cmp Cell

abbrev pub Listed : Type 0
Listed = table.FinMap octets_cmp (List (List ℕ))

-- the cells and lists of what a path had, none where it had nothing
abbrev pub cells_of : Option Record → Celled
cells_of old = option_map_or (λ entry. entry.cells) old table.empty

abbrev pub acls_of : Option Record → Listed
acls_of old = option_map_or (λ entry. entry.acls) old table.empty

-- what a path has once it is written: it is present with these cells and
-- lists and the moment of the change. Where inheritance ended it still ends
abbrev pub record_after : Option Record → Celled → Listed → ℤ → Record
record_after old cells acls moment = record {
  present = true;
  blocks_inheritance = option_map_or (λ entry. entry.blocks_inheritance) old false;
  cells = cells;
  acls = acls;
  modtime = moment;
}

-- what a path has once its entry is deleted: nothing is inherited there from then on
abbrev pub deleted_record : ℤ → Record
deleted_record moment =
    record {
      present = false;
      blocks_inheritance = true;
      cells = table.empty;
      acls = table.empty;
      modtime = moment;
    }

-- the writes of a list
abbrev pub put_all : List (Path × RecordEdit) → Written → Written
put_all [] written = written
put_all (w ∷ ws) written = table.insert (put_all ws written) w.0 w.1

-- ---- missing datasets are made

-- the own entries of the datasets that are missing on the way to a
-- dataset: of those on the way to its parent, and of itself. Each parent's
-- name is shorter, so that as many steps as the name has octets are enough
abbrev pub own_if_missing : Stored → List ℕ → List ℕ × List ℕ → List Path
own_if_missing records dataset own =
    if dataset_exists records dataset then [] else record { dataset = own.0; name = own.1 } ∷ []

abbrev pub missing_within : ℕ → Stored → List ℕ → List Path
missing_within zero records dataset = []
missing_within (suc steps) records dataset =
    option_map_or (λ own. missing_within steps records own.0 ++ own_if_missing records dataset own)
    (own_entry dataset) []

abbrev pub missing_to : Stored → List ℕ → List Path
missing_to records dataset = missing_within (length dataset) records dataset

abbrev pub missing_for : Stored → List StoreEntry → List Path
missing_for records entries = flat_map (λ e. missing_to records e.path.dataset) entries

-- the own entry of a missing dataset gets `subdataset` (".")
abbrev pub step_at : Stored → ℤ → Path → Path × RecordEdit
step_at records moment p = (
  p,
  edit.Put
      (record_after (table.get records p)
      (table.insert (cells_of (table.get records p)) (codes "subdataset") (Multi (codes "." ∷ [])))
      (acls_of (table.get records p)) moment),
)

-- those at some paths, beside other writes
abbrev pub with_steps : Stored → ℤ → List Path → Written → Written
with_steps records moment paths written = put_all (map (step_at records moment) paths) written

-- that of a dataset itself, if it is missing
abbrev pub own_missing : Stored → List ℕ → List Path
own_missing records dataset = option_map_or (own_if_missing records dataset) (own_entry dataset) []

abbrev pub with_own_step : Stored → ℤ → List ℕ → Written → Written
with_own_step records moment dataset written = with_steps records moment (own_missing records dataset) written

-- and those of all datasets that are missing on the way to it
abbrev pub with_steps_to : Stored → ℤ → List ℕ → Written → Written
with_steps_to records moment dataset written = with_steps records moment (missing_to records dataset) written

unfoldable pub steps_for : Stored → List StoreEntry → ℤ → Written
steps_for records entries moment = with_steps records moment (missing_for records entries) table.empty

-- ---- entries get what is given

-- the dataset that a management entry inherits from is kept with `~` replaced and with its closing `/`
abbrev pub base_for : List ℕ → List ℕ → List ℕ
base_for user text = if is_dataset_argument text then for_user user (with_slash text) else text

abbrev pub as_base : List ℕ → Cell → Cell
as_base user Nil = Nil
as_base user (Single text) = Single (base_for user text)
as_base user (Multi texts) = Multi texts

abbrev pub kept_as : List ℕ → Path → List ℕ → Cell → Cell
kept_as user p attribute value =
    if is_management p && octets_eq attribute (codes "dataset.inherit") then as_base user value else value

-- an attribute gets its value, or loses it; an entry's `entry` is its name, and is not kept
abbrev pub with_given : List ℕ → Path → Celled → List ℕ → Given → Celled
with_given user p cells attribute (Put value) = table.insert cells attribute (kept_as user p attribute value)
with_given user p cells attribute Default = table.remove cells attribute

abbrev pub with_named : List ℕ → Path → Celled → List ℕ → Given → Celled
with_named user p cells attribute given =
    if octets_eq attribute (codes "entry") then cells else with_given user p cells attribute given

abbrev pub with_value : List ℕ → Path → Celled → StoreItem → Celled
with_value user p cells item =
    if is_value item.metadata then with_named user p cells item.attribute item.given else cells

abbrev pub with_values : List ℕ → Path → Celled → List StoreItem → Celled
with_values user p cells [] = cells
with_values user p cells (item ∷ items) = with_values user p (with_value user p cells item) items

-- an attribute gets its list, or loses it
abbrev pub with_list_given : Listed → List ℕ → Given → Listed
with_list_given acls attribute (Put Nil) = table.remove acls attribute
with_list_given acls attribute (Put (Single text)) = acls
with_list_given acls attribute (Put (Multi acl)) = table.insert acls attribute acl
with_list_given acls attribute Default = table.remove acls attribute

abbrev pub with_list : Listed → StoreItem → Listed
with_list acls item = if is_value item.metadata then acls else with_list_given acls item.attribute item.given

abbrev pub with_lists : Listed → List StoreItem → Listed
with_lists acls [] = acls
with_lists acls (item ∷ items) = with_lists (with_list acls item) items

-- `entry` NIL deletes the entry, `entry` DEFAULT removes its record
abbrev pub is_nil : Given → Bool
is_nil (Put Nil) = true
is_nil (Put (Single value)) = false
is_nil (Put (Multi values)) = false
is_nil Default = false

abbrev pub is_deleting : StoreItem → Bool
is_deleting item = is_of (codes "entry") item && is_nil item.given

abbrev pub deletes : StoreEntry → Bool
deletes e = list_any is_deleting e.items

abbrev pub ends : StoreEntry → Bool
ends e = list_any is_ending e.items

-- what a path has when the missing datasets have been made
abbrev pub record_with_steps : Stored → Written → Path → Option Record
record_with_steps records steps p = after_edit (table.get steps p) (table.get records p)

-- any other entry gets its items
abbrev pub given_record : List ℕ → Path → Option Record → List StoreItem → ℤ → Record
given_record user p old items moment =
    record_after old (with_values user p (cells_of old) items) (with_lists (acls_of old) items) moment

abbrev pub edit_of : List ℕ → Option Record → ℤ → StoreEntry → RecordEdit
edit_of user old moment e =
    if deletes e then edit.Put (deleted_record moment)
    else (if ends e then edit.Remove else edit.Put (given_record user e.path old e.items moment))

abbrev pub entry_at : Stored → List ℕ → Written → ℤ → StoreEntry → Path × RecordEdit
entry_at records user steps moment e =
    (e.path, edit_of user (record_with_steps records steps e.path) moment e)

abbrev pub entries_at : Stored → List ℕ → Written → ℤ → List StoreEntry → List (Path × RecordEdit)
entries_at records user steps moment entries = map (entry_at records user steps moment) entries

abbrev pub edits_in : Store → List ℕ → Written → ℤ → List StoreEntry → List (Path × RecordEdit)
edits_in store = entries_at store.records

-- ---- all that a STORE writes: the entries, and the own entries of missing datasets

unfoldable pub written_for : Stored → List ℕ → List StoreEntry → ℤ → Written
written_for records user entries moment =
    let steps = steps_for records entries moment in
    put_all (entries_at records user steps moment entries) steps
