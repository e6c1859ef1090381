-- Examples by the definitions alone, one for each rule [RFC 2244 sections 3.1.1, 3.5, 3.6, 6.6.1 and 6.7].
use Rattle.std.specs.Prelude.{◌≡◌, ℕ, ℤ, pos, List, [], ◌∷◌, ◌++◌, replicate, length, map, Bool, true, false}
use Rattle.std.specs.Prelude.{◌&&◌, Option, Some, None, Ok, Err, codes}
use Rattle.std.specs.List.{list_any}
use Rattle.std.specs.List.Sorted.{IsStrictlySortedBy}
use Rattle.std.specs.FinMap as table
use Rattle.acap_entries.specs.Datasets.{dataset_exists}
use Rattle.acap_entries.specs.Moments.{last_moment, moment_after}
use Rattle.acap_entries.specs.Orders.{octets_cmp, octets_eq}
use Rattle.acap_entries.specs.Store.{Stored, Store, Written, after_writes}
use Rattle.acap_entries.specs.declared.record.Cell.{Cell}
use Rattle.acap_entries.specs.declared.record.Cell.TheVariants.{Nil, Single, Multi}
use Rattle.acap_entries.specs.declared.change.RecordEdit.{RecordEdit}
use Rattle.acap_entries.specs.declared.change.RecordEdit.TheVariants as edit
use Rattle.acap_entries.specs.declared.path.Path.{Path}
use Rattle.acap_entries.specs.declared.record.Record.{Record}
use Rattle.acap_commands.specs.declared.store.Given.{Given}
use Rattle.acap_commands.specs.declared.store.Given.TheVariants.{Put, Default}
use Rattle.acap_commands.specs.declared.object_name.ObjectName.TheVariants as object_name
use Rattle.acap_commands.specs.declared.refusal.Refusal.{Refusal}
use Rattle.acap_commands.specs.declared.refusal.Refusal.TheVariants as refusals
use Rattle.acap_commands.specs.declared.store.StoreEntry.{StoreEntry}
use Rattle.acap_commands.specs.declared.store.StoreItem.{StoreItem}
use Rattle.acap_commands.specs.declared.store.StoreMetadata.TheVariants as metadata
use Rattle.acap_commands.specs.declared.store.StoreModifiers.{StoreModifiers}
use Rattle.acap_commands.specs.Modifiers.{unconditional}
use Rattle.acap_rights.specs.Deciding.{Target, OfDataset, OfAttribute, OfEntry, deciding_list, rights_of}
use Rattle.acap_rights.specs.Edits.{with_pair, without}
use Rattle.acap_rights.specs.Pairs.{form_of}
use Rattle.acap_rights.specs.Rights.{no_rights}
use Rattle.acap_rights.specs.declared.realm.Realm.{Realm}
use Rattle.acap_rights.specs.declared.rights.Rights.{Rights}
use Rattle.acap_inherit.specs.Chains.{chain_of}
use Rattle.acap_store.specs.Deleting.{ending, deleted_by, exists_after, names_deleted, is_told, deleted_in}
use Rattle.acap_store.specs.Deleting.{deleted_since, is_too_old, may_read}
use Rattle.acap_store.specs.Forms.{resolved_at, exists_at}
use Rattle.acap_store.specs.Invalid.{is_invalid, invalid}
use Rattle.acap_store.specs.Limits.{gives_large, is_too_much, is_large, is_crowded, writes_crowded}
use Rattle.acap_store.specs.Limits.{is_full_after}
use Rattle.acap_store.specs.Meaning.{meaning}
use Rattle.acap_store.specs.Permission.{permission, permission_in, suffices_for_entry, suffices_for_item}
use Rattle.acap_store.specs.Permission.{item_target, list_target}
use Rattle.acap_store.specs.Planning.{planned_for, refusals_by_room, change_with}
use Rattle.acap_store.specs.Refusing.{has_twice, no_exist, modified, modtime_at, is_later, first_of}
use Rattle.acap_store.specs.Writing.{Celled, Listed, record_after, deleted_record, with_values, with_lists}
use Rattle.acap_store.specs.Writing.{edit_of, own_if_missing, missing_to, step_at, written_for}
use Rattle.acap_store.specs.declared.write.ResolvedWrite.{ResolvedWrite}
use Rattle.acap_store.specs.declared.write.Write.TheVariants as write

abbrev pub joe : List ℕ
joe = codes "joe"

abbrev pub value : List ℕ → Given → StoreItem
value attribute given = record { attribute = attribute; metadata = metadata.Value; given = given }

abbrev pub acl : List ℕ → Given → StoreItem
acl attribute given = record { attribute = attribute; metadata = metadata.Acl; given = given }

abbrev pub text : List ℕ → Given
text octets = Put (Single octets)

abbrev pub list : List (List ℕ) → Given
list texts = Put (Multi texts)

-- a string of a list
abbrev pub pair : List ℕ → List ℕ → List ℕ
pair identifier letters = form_of (record { identifier = identifier; letters = letters })

abbrev pub home : List ℕ
home = codes "/option/user/joe/"

abbrev pub at : List ℕ → Path
at name = record { dataset = home; name = name }

-- an entry of joe's home
abbrev pub entry : List ℕ → List StoreItem → StoreEntry
entry name items = record { path = at name; modifiers = unconditional; items = items }

-- which of some items may not be stored in an entry, each being the only one
abbrev pub invalid_flags : Stored → List ℕ → List StoreItem → List Bool
invalid_flags records name items =
    map (λ item. is_invalid records (entry name (item ∷ []) ∷ []) (entry name (item ∷ [])) item) items

-- ---- what may be stored

pub record ItemExamples (records : Stored) : Type 0 where
  pub ordinary : invalid_flags records (codes "a")
      (value (codes "k") (text (codes "1")) ∷ value (codes "k") (Put Nil) ∷ value (codes "k") Default
      ∷ value (codes "k") (list []) ∷ [])
      ≡ false ∷ false ∷ false ∷ false ∷ []
  pub told_by_the_server : invalid_flags records (codes "a")
      (value (codes "modtime") (text (codes "1")) ∷ value (codes "modtime") Default
      ∷ acl (codes "modtime") (Put Nil) ∷ [])
      ≡ true ∷ true ∷ true ∷ []
  pub dot : invalid_flags records (codes "a")
      (value (codes "subdataset") (list (codes "." ∷ []))
      ∷ value (codes "subdataset") (list (codes ".." ∷ [])) ∷ value (codes "subdataset") (text (codes "."))
      ∷ value (codes "subdataset") (Put Nil) ∷ value (codes "subdataset") Default
      ∷ acl (codes "subdataset") (Put Nil) ∷ [])
      ≡ false ∷ true ∷ true ∷ true ∷ true ∷ false ∷ []
  pub its_name : invalid_flags records (codes "a")
      (value (codes "entry") (text (codes "a")) ∷ value (codes "entry") (text (codes "b"))
      ∷ value (codes "entry") (list (codes "a" ∷ [])) ∷ value (codes "entry") (list []) ∷ [])
      ≡ false ∷ true ∷ true ∷ true ∷ []
  -- the management entry's name is empty, and it never ends
  pub no_name : invalid_flags records []
      (value (codes "entry") (text []) ∷ value (codes "entry") (list []) ∷ value (codes "entry") (Put Nil)
      ∷ value (codes "entry") Default ∷ [])
      ≡ false ∷ true ∷ true ∷ true ∷ []
  pub lists : invalid_flags records (codes "a")
      (acl (codes "k") (list (pair (codes "joe") (codes "r") ∷ [])) ∷ acl (codes "k") (list [])
      ∷ acl (codes "k") (Put Nil) ∷ acl (codes "k") Default
      ∷ acl (codes "k") (text (pair (codes "joe") (codes "r"))) ∷ acl (codes "k") (list (codes "joe" ∷ []))
      ∷ acl (codes "k") (list (pair (codes "joe") (codes "q") ∷ []))
      ∷ acl (codes "k") (list (pair (codes "-") (codes "r") ∷ [])) ∷ [])
      ≡ false ∷ false ∷ false ∷ false ∷ true ∷ true ∷ true ∷ true ∷ []
  -- in the management entry alone some values are lists
  pub kept_lists : invalid_flags records []
      (value (codes "dataset.acl") (text (pair (codes "joe") (codes "r")))
      ∷ value (codes "dataset.acl.k") (list (codes "joe" ∷ []))
      ∷ value (codes "dataset.acl") (list (pair (codes "joe") (codes "r") ∷ []))
      ∷ value (codes "dataset.acl") Default ∷ value (codes "dataset.acl.") (text (codes "x")) ∷ [])
      ≡ true ∷ true ∷ false ∷ false ∷ false ∷ []
  pub no_lists : invalid_flags records (codes "a")
      (value (codes "dataset.acl") (text (codes "x")) ∷ value (codes "dataset.acl.k") (text (codes "x"))
      ∷ value (codes "dataset.inherit") (list []) ∷ [])
      ≡ false ∷ false ∷ false ∷ []
  pub base : invalid_flags records []
      (value (codes "dataset.inherit") (text (codes "/a"))
      ∷ value (codes "dataset.inherit") (text (codes "/option/~/"))
      ∷ value (codes "dataset.inherit") (Put Nil) ∷ value (codes "dataset.inherit") Default
      ∷ value (codes "dataset.inherit") (text (codes "a/")) ∷ value (codes "dataset.inherit") (text [])
      ∷ value (codes "dataset.inherit") (list (codes "/a/" ∷ [])) ∷ [])
      ≡ false ∷ false ∷ false ∷ false ∷ true ∷ true ∷ true ∷ []
  -- what ends is alone in its entry, and no path of the command lies beneath it
  pub beside : (item : StoreItem)
      → is_invalid records [] (entry (codes "a") (value (codes "entry") (Put Nil) ∷ item ∷ []))
      (value (codes "entry") (Put Nil)) ≡ true
  pub above : (items : List StoreItem) (e : StoreEntry)
      → e.path ≡ record { dataset = codes "/option/user/joe/a/b/"; name = codes "c" } →
      is_invalid records (e ∷ []) (entry (codes "a") (value (codes "entry") Default ∷ []))
      (value (codes "entry") Default) ≡ true
  -- a path whose dataset only begins alike lies beside it
  pub alike : (e : StoreEntry) → e.path ≡ record { dataset = codes "/option/user/joe/ab/"; name = codes "c" }
      → resolved_at records (at (codes "a")) (codes "subdataset") ≡ None →
      is_invalid records (e ∷ []) (entry (codes "a") (value (codes "entry") Default ∷ []))
      (value (codes "entry") Default) ≡ false
  -- an entry may end where it makes no dataset
  pub makes_none : resolved_at records (at (codes "a")) (codes "subdataset") ≡ None
      → invalid_flags records (codes "a")
      (value (codes "entry") (Put Nil) ∷ value (codes "entry") Default ∷ []) ≡ false ∷ false ∷ []
  pub makes_one : (found : Cell × List ℕ)
      → resolved_at records (at (codes "a")) (codes "subdataset") ≡ Some found
      → invalid_flags records (codes "a")
      (value (codes "entry") (Put Nil) ∷ value (codes "entry") Default ∷ []) ≡ true ∷ true ∷ []
  -- every item of every entry is judged, and the first that is invalid is named
  pub second_item : invalid records
      (record {
        entries = entry (codes "a") (value (codes "k") Default ∷ [])
            ∷ entry (codes "b") (value (codes "k") Default ∷ value (codes "modtime") Default ∷ []) ∷ [];
        drops_dataset_list = false;
      }) ≡ Some (refusals.Invalid (at (codes "b")) (codes "modtime"))

-- ---- what SETACL and DELETEACL mean

-- joe's home, as he sends it
abbrev pub own_home : List ℕ
own_home = codes "/option/~/"

-- one item, with NOCREATE
abbrev pub one : List ℕ → StoreItem → List StoreEntry
one name item =
    record {
      path = at name;
      modifiers = record { no_create = true; unchanged_since = None };
      items = item ∷ [];
    } ∷ []

abbrev pub decisive_list : Stored → Target → List (List ℕ)
decisive_list records target = deciding_list records target

pub record MeaningExamples (records : Stored) : Type 0 where
  pub of_dataset : meaning records joe (write.SetAcl (object_name.Dataset own_home) (codes "ann") (codes "r"))
      ≡ record {
        entries = one []
            (value (codes "dataset.acl")
            (list (with_pair (codes "ann") (codes "r") (decisive_list records (OfDataset home)))));
        drops_dataset_list = false;
      }
  pub of_attribute : meaning records joe
      (write.SetAcl (object_name.Attribute own_home (codes "k")) (codes "ann") (codes "r"))
      ≡ record {
        entries = one []
            (value (codes "dataset.acl.k")
            (list (with_pair (codes "ann") (codes "r")
            (decisive_list records (OfAttribute home (codes "k"))))));
        drops_dataset_list = false;
      }
  pub of_entry : meaning records joe
      (write.SetAcl (object_name.Entry own_home (codes "k") (codes "a")) (codes "ann") (codes "r"))
      ≡ record {
        entries = one (codes "a")
            (acl (codes "k")
            (list (with_pair (codes "ann") (codes "r")
            (decisive_list records (OfEntry home (codes "k") (codes "a"))))));
        drops_dataset_list = false;
      }
  pub taken_off : meaning records joe
      (write.DeleteAcl (object_name.Attribute own_home (codes "k")) (Some (codes "ann")))
      ≡ record {
        entries = one []
            (value (codes "dataset.acl.k")
            (list (without (codes "ann") (decisive_list records (OfAttribute home (codes "k"))))));
        drops_dataset_list = false;
      }
  pub dropped : meaning records joe (write.DeleteAcl (object_name.Attribute own_home (codes "k")) None)
      ≡ record { entries = one [] (value (codes "dataset.acl.k") Default); drops_dataset_list = false }
  pub dropped_of_entry : meaning records joe
      (write.DeleteAcl (object_name.Entry own_home (codes "k") (codes "a")) None)
      ≡ record { entries = one (codes "a") (acl (codes "k") Default); drops_dataset_list = false }
  -- a STORE stores its entries as they are, at the paths that its user means
  pub entries : (modifiers : StoreModifiers) (items : List StoreItem)
      → meaning records joe
      (write.Store
      (record {
        path = record { dataset = codes "/option/~/"; name = codes "a" };
        modifiers = modifiers;
        items = items;
      } ∷ []))
      ≡ record {
        entries = record { path = at (codes "a"); modifiers = modifiers; items = items } ∷ [];
        drops_dataset_list = false;
      }
  -- the list of a dataset is not dropped as a whole, though a STORE may do that
  pub whole : invalid records (meaning records joe (write.DeleteAcl (object_name.Dataset own_home) None))
      ≡ Some (refusals.Invalid (at []) (codes "dataset.acl"))
  pub stored : invalid records
      (record { entries = one [] (value (codes "dataset.acl") Default); drops_dataset_list = false }) ≡ None
  -- letters that are no rights make no list, and `modtime` of an entry has none
  pub no_rights : invalid records
      (meaning records joe
      (write.SetAcl (object_name.Entry own_home (codes "modtime") (codes "a")) (codes "ann") (codes "r")))
      ≡ Some (refusals.Invalid (at (codes "a")) (codes "modtime"))

-- ---- rights

abbrev pub with_r : Rights
with_r = record no_rights { r = true }

-- joe's on an attribute of the entry `a`
abbrev pub rights_at : Stored → Realm → List ℕ → Rights
rights_at records realm attribute = rights_of records realm joe (OfEntry home attribute (codes "a"))

-- why joe may not store some items in the entry `a`
abbrev pub denied_items : Stored → Realm → List StoreItem → Option Refusal
denied_items records realm items = permission records realm joe (entry (codes "a") items ∷ [])

-- the answer where a right is missing on an attribute of that entry
abbrev pub missing_on : List ℕ → Option Refusal
missing_on attribute = Some (refusals.Permission (object_name.Entry home attribute (codes "a")))

pub record PermissionExamples : Type 0 where
  -- an entry: r where it exists, and where it doesn't r with w or i
  pub there : map (suffices_for_entry true)
      (no_rights ∷ with_r ∷ record no_rights { w = true; i = true } ∷ []) ≡ false ∷ true ∷ false ∷ []
  pub not_there : map (suffices_for_entry false)
      (with_r ∷ record with_r { w = true } ∷ record with_r { i = true } ∷ record with_r { a = true } ∷ [])
      ≡ false ∷ true ∷ true ∷ false ∷ []
  -- a value: w, or i where there is none; a list: a
  pub over_value : map (suffices_for_item false false)
      (record no_rights { w = true } ∷ record no_rights { i = true } ∷ record no_rights { a = true } ∷ [])
      ≡ true ∷ false ∷ false ∷ []
  pub over_nil : map (suffices_for_item false true)
      (record no_rights { w = true } ∷ record no_rights { i = true } ∷ record no_rights { a = true } ∷ [])
      ≡ true ∷ true ∷ false ∷ []
  pub of_list : map (suffices_for_item true true)
      (record no_rights { w = true; i = true } ∷ record no_rights { a = true } ∷ []) ≡ false ∷ true ∷ []
  -- on what they are asked
  pub on_value : item_target (at (codes "a")) (value (codes "dataset.acl") (text []))
      ≡ OfEntry home (codes "dataset.acl") (codes "a")
  pub on_dataset : list_target (at []) (value (codes "dataset.acl") (Put Nil)) ≡ Some (OfDataset home)
  pub on_attribute : list_target (at []) (value (codes "dataset.acl.k") (Put Nil))
      ≡ Some (OfAttribute home (codes "k"))
  pub on_entry : list_target (at (codes "a")) (acl (codes "k") (Put Nil))
      ≡ Some (OfEntry home (codes "k") (codes "a"))
  pub on_management : item_target (at []) (value (codes "dataset.inherit") (Put Nil))
      ≡ OfEntry home (codes "dataset.inherit") []
  pub on_its_entry : list_target (at []) (acl (codes "k") (Put Nil)) ≡ Some (OfEntry home (codes "k") [])
  -- the first entry at which rights are missing is named, wherever it stands
  pub first_entry : (records : Stored) (realm : Realm) (e f : StoreEntry) (r : Refusal)
      → permission_in records realm joe e ≡ Some r → permission records realm joe (e ∷ f ∷ []) ≡ Some r
  pub second_entry : (records : Stored) (realm : Realm) (e f : StoreEntry) (r : Refusal)
      → permission_in records realm joe e ≡ None → permission_in records realm joe f ≡ Some r
      → permission records realm joe (e ∷ f ∷ []) ≡ Some r
  -- in it its `entry` comes before its items, and the management entry is asked for its items alone
  pub no_entry : (records : Stored) (realm : Realm) → exists_at records (at (codes "a")) ≡ false
      → rights_at records realm (codes "entry") ≡ with_r
      → denied_items records realm (value (codes "k") Default ∷ []) ≡ missing_on (codes "entry")
  pub management : (records : Stored) (realm : Realm)
      → rights_of records realm joe (OfEntry home (codes "k") []) ≡ record no_rights { w = true }
      → permission records realm joe (entry [] (value (codes "k") Default ∷ []) ∷ []) ≡ None
  -- i suffices where the attribute resolves to NIL and nowhere
  -- else, and each item is judged: an `entry` too, which ends
  pub nothing_there : (records : Stored) (realm : Realm) → exists_at records (at (codes "a")) ≡ true
      → rights_at records realm (codes "entry") ≡ with_r
      → resolved_at records (at (codes "a")) (codes "k") ≡ None
      → rights_at records realm (codes "k") ≡ record no_rights { i = true }
      → denied_items records realm (value (codes "k") Default ∷ []) ≡ None
  pub value_there : (records : Stored) (realm : Realm) (found : Cell × List ℕ)
      → exists_at records (at (codes "a")) ≡ true → rights_at records realm (codes "entry") ≡ with_r
      → rights_at records realm (codes "k") ≡ record no_rights { w = true }
      → resolved_at records (at (codes "a")) (codes "l") ≡ Some found
      → rights_at records realm (codes "l") ≡ record no_rights { i = true }
      → denied_items records realm (value (codes "k") Default ∷ value (codes "l") Default ∷ [])
      ≡ missing_on (codes "l")
  pub end_there : (records : Stored) (realm : Realm) (found : Cell × List ℕ)
      → exists_at records (at (codes "a")) ≡ true
      → rights_at records realm (codes "entry") ≡ record no_rights { r = true; i = true }
      → resolved_at records (at (codes "a")) (codes "entry") ≡ Some found
      → denied_items records realm (value (codes "entry") (Put Nil) ∷ []) ≡ missing_on (codes "entry")
  -- a list of an attribute needs a on it
  pub no_a : (records : Stored) (realm : Realm) → exists_at records (at (codes "a")) ≡ true
      → rights_at records realm (codes "entry") ≡ with_r
      → rights_at records realm (codes "k") ≡ record { x = true; r = true; w = true; i = true; a = false }
      → denied_items records realm (acl (codes "k") Default ∷ []) ≡ missing_on (codes "k")

-- ---- conditions and limits

pub record LimitExamples : Type 0 where
  pub twice : has_twice (entry (codes "a") [] ∷ entry (codes "b") [] ∷ entry (codes "a") [] ∷ []) ≡ true
  pub once : has_twice (entry (codes "a") [] ∷ entry (codes "b") []
      ∷ record (entry [] []) { path = record { dataset = codes "/"; name = codes "a" } } ∷ []) ≡ false
  pub later : map (λ changed. is_later changed (pos 5))
      (None ∷ Some (pos 4) ∷ Some (pos 5) ∷ Some (pos 6) ∷ []) ≡ false ∷ false ∷ false ∷ true ∷ []
  pub octets : map is_large (text (replicate 65_536 120) ∷ text (replicate 65_537 120)
      ∷ list (replicate 65_536 120 ∷ []) ∷ list ([] ∷ replicate 65_537 120 ∷ []) ∷ [])
      ≡ false ∷ true ∷ false ∷ true ∷ []
  pub strings : map is_large (list (replicate 256 []) ∷ list (replicate 257 []) ∷ Put Nil ∷ Default ∷ [])
      ≡ false ∷ true ∷ false ∷ false ∷ []
  pub cells_256 : (r : Record) → table.len r.cells ≡ 256 → is_crowded (edit.Put r) ≡ false
  pub cells_257 : (r : Record) → table.len r.cells ≡ 257 → is_crowded (edit.Put r) ≡ true
  pub records_65536 : (records : Stored) (written : Written)
      → table.len (after_writes (table.entries written) records) ≡ 65_536
      → is_full_after records written ≡ false
  pub records_65537 : (records : Stored) (written : Written)
      → table.len (after_writes (table.entries written) records) ≡ 65_537
      → is_full_after records written ≡ true
  pub clock_end : (s : Store) (written : Written) (now : ℤ) → s.last ≡ last_moment
      → first_of (refusals_by_room s true written now) ≡ Some refusals.Limit
  -- NOCREATE refuses the first entry that has it and whose
  -- dataset doesn't exist, and only where it is asked for
  pub not_asked : (records : Stored) (e : StoreEntry) → e.modifiers.no_create ≡ false
      → no_exist records (e ∷ []) ≡ None
  pub not_created : (records : Stored) (e f : StoreEntry) → e.modifiers.no_create ≡ false
      → f.modifiers.no_create ≡ true → dataset_exists records f.path.dataset ≡ false
      → no_exist records (e ∷ f ∷ []) ≡ Some (refusals.NoExist f.path.dataset)
  -- UNCHANGEDSINCE refuses the first entry that has it, exists and is later, and no entry that doesn't exist
  pub not_changed : (records : Stored) (e : StoreEntry) (since : ℤ) → e.modifiers.unchanged_since ≡ Some since
      → exists_at records e.path ≡ false → modified records (e ∷ []) ≡ None
  pub changed : (records : Stored) (e f : StoreEntry) → e.modifiers.unchanged_since ≡ None
      → f.modifiers.unchanged_since ≡ Some (pos 5) → exists_at records f.path ≡ true
      → modtime_at records f.path ≡ Some (pos 6)
      → modified records (e ∷ f ∷ []) ≡ Some (refusals.Modified f.path)
  -- each limit is enough for a refusal, and it is asked of every item and of every record that is written
  pub second_large : gives_large
      (entry (codes "a") []
      ∷ entry (codes "b") (value (codes "k") Default ∷ value (codes "l") (list (replicate 257 [])) ∷ []) ∷ [])
      ≡ true
  pub second_crowded : (written : Written) (v w : Path × RecordEdit) → table.entries written ≡ v ∷ w ∷ []
      → is_crowded v.1 ≡ false → is_crowded w.1 ≡ true → writes_crowded written ≡ true
  pub crowded : (records : Stored) (written : Written) → writes_crowded written ≡ true
      → is_too_much records false written ≡ true
  pub full : (records : Stored) (written : Written) → writes_crowded written ≡ false
      → is_full_after records written ≡ true → is_too_much records false written ≡ true
  -- the name of an attribute's list may be longer than any name that is sent
  pub long_name : length (codes "dataset.acl." ++ replicate 200 120) ≡ 212

-- ---- what is written

pub record WritingExamples : Type 0 where
  -- a new entry, and one that keeps the rest of what it had
  pub fresh : (cells : Celled) (acls : Listed) (moment : ℤ)
      → record_after None cells acls moment
      ≡ record { present = true; blocks_inheritance = false; cells = cells; acls = acls; modtime = moment }
  pub again : (cells : Celled) (acls : Listed) (before moment : ℤ)
      → record_after (Some (deleted_record before)) cells acls moment
      ≡ record { present = true; blocks_inheritance = true; cells = cells; acls = acls; modtime = moment }
  -- `entry` NIL and DEFAULT
  pub deletes : (old : Option Record) (moment : ℤ)
      → edit_of joe old moment (entry (codes "a") (value (codes "entry") (Put Nil) ∷ []))
      ≡ edit.Put
      (record {
        present = false;
        blocks_inheritance = true;
        cells = table.empty;
        acls = table.empty;
        modtime = moment;
      })
  pub removes : (old : Option Record) (moment : ℤ)
      → edit_of joe old moment (entry (codes "a") (value (codes "entry") Default ∷ [])) ≡ edit.Remove
  -- DEFAULT of what isn't there writes the record, and its own name is not kept
  pub default : (moment : ℤ)
      → edit_of joe None moment
      (entry (codes "a") (value (codes "k") Default ∷ value (codes "entry") (text (codes "a")) ∷ []))
      ≡ edit.Put (record_after None (table.remove table.empty (codes "k")) table.empty moment)
  -- an entry keeps what is not given to it, and so does the
  -- own entry of a missing dataset, which gets `subdataset`
  pub keeps : (old : Record) (moment : ℤ)
      → edit_of joe (Some old) moment
      (entry (codes "a") (value (codes "k") (text (codes "1")) ∷ acl (codes "l") (list []) ∷ []))
      ≡ edit.Put
      (record {
        present = true;
        blocks_inheritance = old.blocks_inheritance;
        cells = table.insert old.cells (codes "k") (Single (codes "1"));
        acls =
            table.insert old.acls (codes "l") [];
        modtime = moment;
      })
  pub keeps_step : (records : Stored) (p : Path) (old : Record) (moment : ℤ) → table.get records p ≡ Some old
      → step_at records moment p
      ≡ (
        p,
        edit.Put
            (record {
              present = true;
              blocks_inheritance = old.blocks_inheritance;
              cells = table.insert old.cells (codes "subdataset") (Multi (codes "." ∷ []));
              acls =
                  old.acls;
              modtime = moment;
            }),
      )
  -- the list of `entry` is a list as any other, and no end
  pub list_of_entry : (old : Record) (moment : ℤ)
      → edit_of joe (Some old) moment (entry (codes "a") (acl (codes "entry") (Put Nil) ∷ []))
      ≡ edit.Put
      (record {
        present = true;
        blocks_inheritance = old.blocks_inheritance;
        cells = old.cells;
        acls = table.remove old.acls (codes "entry");
        modtime = moment;
      })
  -- values and lists
  pub values : (cells : Celled)
      → with_values joe (at (codes "a")) cells
      (value (codes "k") (text (codes "1")) ∷ acl (codes "l") (list []) ∷ value (codes "l") (Put Nil)
      ∷ value (codes "m") Default ∷ [])
      ≡ table.remove (table.insert (table.insert cells (codes "k") (Single (codes "1"))) (codes "l") Nil)
      (codes "m")
  pub lists : (acls : Listed)
      → with_lists acls (value (codes "k") (text (codes "1"))
      ∷ acl (codes "l") (list (pair (codes "joe") (codes "r") ∷ [])) ∷ acl (codes "m") (Put Nil)
      ∷ acl (codes "n") Default ∷ [])
      ≡ table.remove
      (table.remove (table.insert acls (codes "l") (pair (codes "joe") (codes "r") ∷ [])) (codes "m"))
      (codes "n")
  -- what is inherited from is kept as its user means it, in the management entry
  pub base : (cells : Celled)
      → with_values joe (at []) cells (value (codes "dataset.inherit") (text (codes "/option/~/b")) ∷ [])
      ≡ table.insert cells (codes "dataset.inherit") (Single (codes "/option/user/joe/b/"))
  pub no_base : (cells : Celled)
      → with_values joe (at (codes "a")) cells
      (value (codes "dataset.inherit") (text (codes "/option/~/b")) ∷ [])
      ≡ table.insert cells (codes "dataset.inherit") (Single (codes "/option/~/b"))
  pub other_value : (cells : Celled)
      → with_values joe (at []) cells (value (codes "k") (text (codes "/option/~/b")) ∷ [])
      ≡ table.insert cells (codes "k") (Single (codes "/option/~/b"))
  -- a dataset that exists is not made again
  pub there : (records : Stored) (dataset : List ℕ) (own : List ℕ × List ℕ)
      → dataset_exists records dataset ≡ true → own_if_missing records dataset own ≡ []
  -- each missing dataset on the way, the nearest to `/` first
  pub missing : missing_to table.empty (codes "/a/b/")
      ≡ record { dataset = codes "/"; name = codes "a" } ∷ record { dataset = codes "/a/"; name = codes "b" }
      ∷ []

-- ---- what DELETEDSINCE sends

-- the names rise strictly, and are those of the deletions in the
-- dataset that are later than the time and whose entries don't exist
pub record TellingLaw : Type 0 where
  pub rises : (s : Store) (dataset : List ℕ) (since : ℤ)
      → IsStrictlySortedBy octets_cmp (names_deleted s dataset since)
  pub told : (s : Store) (dataset name : List ℕ) (since : ℤ) →
      list_any (octets_eq name) (names_deleted s dataset since)
      ≡ list_any (λ d. octets_eq name d.path.name && is_told s.records dataset since d) s.deletions
  -- refusals and rights
  pub no_dataset : (s : Store) (realm : Realm) (user dataset : List ℕ) (since : ℤ)
      → dataset_exists s.records dataset ≡ false
      → deleted_in s realm user dataset since ≡ Err (refusals.NoExist dataset)
  pub too_old : (s : Store) (realm : Realm) (user dataset : List ℕ) (since : ℤ)
      → dataset_exists s.records dataset ≡ true → is_too_old s since ≡ true
      → deleted_in s realm user dataset since ≡ Err refusals.TooOld
  pub not_readable : (s : Store) (realm : Realm) (user dataset : List ℕ) (since : ℤ)
      → dataset_exists s.records dataset ≡ true → is_too_old s since ≡ false
      → may_read s.records realm user dataset ≡ false → deleted_in s realm user dataset since ≡ Ok []
  pub readable : (s : Store) (realm : Realm) (user dataset : List ℕ) (since : ℤ)
      → dataset_exists s.records dataset ≡ true → is_too_old s since ≡ false
      → may_read s.records realm user dataset ≡ true
      → deleted_in s realm user dataset since ≡ Ok (names_deleted s dataset since)
  pub by_r : (records : Stored) (realm : Realm)
      → rights_of records realm joe (OfAttribute home (codes "entry")) ≡ with_r
      → may_read records realm joe home ≡ true
  pub not_by_others : (records : Stored) (realm : Realm)
      → rights_of records realm joe (OfAttribute home (codes "entry"))
      ≡ record { x = true; r = false; w = true; i = true; a = true } → may_read records realm joe home ≡ false
  -- the dataset is the one that its user means
  pub meant : (s : Store) (realm : Realm) (since : ℤ)
      → deleted_since s realm joe (codes "/option/~/") since ≡ deleted_in s realm joe home since
  -- a deletion is sent after its moment, not at it, in its
  -- dataset alone, and not where the entry exists again
  pub later : (records : Stored) → exists_at records (at (codes "a")) ≡ false
      → map (λ moment. is_told records home (pos 5) (record { path = at (codes "a"); moment = moment }))
      (pos 4 ∷ pos 5 ∷ pos 6 ∷ []) ≡ false ∷ false ∷ true ∷ []
  pub elsewhere : (records : Stored)
      → is_told records (codes "/option/user/") (pos 5) (record { path = at (codes "a"); moment = pos 6 })
      ≡ false
  pub there_again : (records : Stored) → exists_at records (at (codes "a")) ≡ true
      → is_told records home (pos 5) (record { path = at (codes "a"); moment = pos 6 }) ≡ false
  -- a time that is the forgotten moment itself is not too old, nor is any where nothing was forgotten
  pub forgotten : (s : Store) → s.forgotten ≡ Some (pos 5)
      → map (is_too_old s) (pos 4 ∷ pos 5 ∷ pos 6 ∷ []) ≡ true ∷ false ∷ false ∷ []
  pub not_forgotten : (s : Store) (since : ℤ) → s.forgotten ≡ None → is_too_old s since ≡ false

-- ---- the order of refusals

-- each comes before the later ones, whatever these say, and is judged by the store as it was
pub record StageLaw (s : Store) (realm : Realm) (user : List ℕ) (meant : ResolvedWrite)
    (now : ℤ) : Type 0 where
  pub twice : has_twice meant.entries ≡ true
      → planned_for s realm user meant now ≡ Err refusals.NotPermittedTwice
  pub denied : (r : Refusal) → has_twice meant.entries ≡ false
      → permission s.records realm user meant.entries ≡ Some r → planned_for s realm user meant now ≡ Err r
  pub missing : (r : Refusal) → has_twice meant.entries ≡ false
      → permission s.records realm user meant.entries ≡ None → no_exist s.records meant.entries ≡ Some r
      → planned_for s realm user meant now ≡ Err r
  pub changed : (r : Refusal) → has_twice meant.entries ≡ false
      → permission s.records realm user meant.entries ≡ None → no_exist s.records meant.entries ≡ None
      → modified s.records meant.entries ≡ Some r → planned_for s realm user meant now ≡ Err r
  pub not_valid : (r : Refusal) → has_twice meant.entries ≡ false
      → permission s.records realm user meant.entries ≡ None → no_exist s.records meant.entries ≡ None
      → modified s.records meant.entries ≡ None
      → invalid s.records meant ≡ Some r → planned_for s realm user meant now ≡ Err r
  pub limit : has_twice meant.entries ≡ false → permission s.records realm user meant.entries ≡ None
      → no_exist s.records meant.entries ≡ None → modified s.records meant.entries ≡ None
      → invalid s.records meant ≡ None
      → gives_large meant.entries ≡ true → planned_for s realm user meant now ≡ Err refusals.Limit
  pub clock_end : has_twice meant.entries ≡ false → permission s.records realm user meant.entries ≡ None
      → no_exist s.records meant.entries ≡ None → modified s.records meant.entries ≡ None
      → invalid s.records meant ≡ None
      → is_too_much s.records (gives_large meant.entries) (written_for s.records user meant.entries s.last)
      ≡ false → moment_after s.last now ≡ None
      → planned_for s realm user meant now ≡ Err refusals.ClockEnd

abbrev pub StageLaws : Type 0
StageLaws = (s : Store) (realm : Realm) (user : List ℕ) (meant : ResolvedWrite) (now : ℤ)
    → StageLaw s realm user meant now

-- ---- deletions and moments

pub record ChangeExamples (records : Stored) : Type 0 where
  -- what ends is recorded where it existed, and doesn't afterwards
  pub there : exists_at records (at (codes "a")) ≡ true
      → ending records (entry (codes "b") (value (codes "k") (Put Nil) ∷ [])
      ∷ entry (codes "a") (value (codes "entry") (Put Nil) ∷ []) ∷ []) ≡ at (codes "a") ∷ []
  pub not_there : exists_at records (at (codes "a")) ≡ false
      → ending records (entry (codes "a") (value (codes "entry") Default ∷ []) ∷ []) ≡ []
  pub shows_through : (written : Written) → exists_at records (at (codes "a")) ≡ true
      → exists_after records written (at (codes "a")) ≡ true
      → deleted_by records written (entry (codes "a") (value (codes "entry") Default ∷ []) ∷ []) ≡ []
  pub ends : (written : Written) → exists_at records (at (codes "a")) ≡ true
      → exists_after records written (at (codes "a")) ≡ false
      → deleted_by records written (entry (codes "a") (value (codes "entry") Default ∷ []) ∷ [])
      ≡ at (codes "a") ∷ []
  -- that is judged by the store that the writes leave
  pub gone : (written : Written) → exists_at records (at (codes "a")) ≡ true
      → chain_of (after_writes (table.entries written) records) home false ≡ home ∷ []
      → table.get (after_writes (table.entries written) records) (at (codes "a")) ≡ None →
      deleted_by records written (entry (codes "a") (value (codes "entry") Default ∷ []) ∷ [])
      ≡ at (codes "a") ∷ []
  pub recorded : (written : Written) (moment : ℤ) → exists_at records (at (codes "a")) ≡ true
      → exists_after records written (at (codes "a")) ≡ true →
      change_with records (entry (codes "a") (value (codes "entry") Default ∷ []) ∷ []) written moment
      ≡ record { writes = written; moment = moment; deleted = [] }
  -- an entry exists where its base has it, and has its values
  pub inherited : (base : List ℕ) (second : Record) → chain_of records home false ≡ home ∷ base ∷ []
      → table.get records (at (codes "a")) ≡ None
      → table.get records (record { dataset = base; name = codes "a" }) ≡ Some second →
      second.present ≡ true → exists_at records (at (codes "a")) ≡ true
  pub inherited_value : (base : List ℕ) (second : Record) → chain_of records home false ≡ home ∷ base ∷ []
      → table.get records (at (codes "a")) ≡ None
      → table.get records (record { dataset = base; name = codes "a" }) ≡ Some second →
      second.present ≡ true → table.get second.cells (codes "k") ≡ Some (Single (codes "1"))
      → resolved_at records (at (codes "a")) (codes "k") ≡ Some (Single (codes "1"), base)
  -- UNCHANGEDSINCE goes by the latest record along the chain
  pub latest : (base : List ℕ) (first second : Record) → chain_of records home false ≡ home ∷ base ∷ []
      → table.get records (at (codes "a")) ≡ Some first
      → table.get records (record { dataset = base; name = codes "a" }) ≡ Some second →
      first.blocks_inheritance ≡ false → second.blocks_inheritance ≡ false → first.modtime ≡ pos 1
      → second.modtime ≡ pos 9 → modtime_at records (at (codes "a")) ≡ Some (pos 9)
