-- Which entries a STORE deletes, and which of them DELETEDSINCE sends [RFC 2244 section 6.6.2].
use Rattle.std.specs.Prelude.{ℕ, ℤ, List, [], ◌∷◌, Bool, false, not, ◌&&◌, int_lt, codes, Result, Ok, Err}
use Rattle.std.specs.Prelude.{filter, map, if◌then◌else◌}
use Rattle.std.specs.Option.{option_map_or}
use Rattle.std.specs.FinMap as table
use Rattle.acap_entries.specs.Datasets.{dataset_exists}
use Rattle.acap_entries.specs.Homes.{for_user}
use Rattle.acap_entries.specs.Orders.{octets_cmp, octets_eq}
use Rattle.acap_entries.specs.Store.{Stored, Store, Written, after_writes}
use Rattle.acap_entries.specs.declared.deletions.Deletion.{Deletion}
use Rattle.acap_entries.specs.declared.path.Path.{Path}
use Rattle.acap_commands.specs.declared.refusal.Refusal.{Refusal}
use Rattle.acap_commands.specs.declared.refusal.Refusal.TheVariants as refusals
use Rattle.acap_commands.specs.declared.store.StoreEntry.{StoreEntry}
use Rattle.acap_rights.specs.Deciding.{OfAttribute, rights_of}
use Rattle.acap_rights.specs.declared.realm.Realm.{Realm}
use Rattle.acap_store.specs.Forms.{exists_at}
use Rattle.acap_store.specs.Writing.{ends}

-- ---- what a STORE deletes

abbrev pub is_to_end : Stored → StoreEntry → Bool
is_to_end records e = ends e && exists_at records e.path

-- the paths of those entries that are to end and exist, in the command's order
unfoldable pub ending : Stored → List StoreEntry → List Path
ending records entries = map (λ e. e.path) (filter (is_to_end records) entries)

-- of these the ones that don't exist afterwards
abbrev pub exists_after : Stored → Written → Path → Bool
exists_after records written p = exists_at (after_writes (table.entries written) records) p

abbrev pub gone_after : Stored → Written → List Path → List Path
gone_after records written paths = filter (λ p. not (exists_after records written p)) paths

unfoldable pub deleted_by : Stored → Written → List StoreEntry → List Path
deleted_by records written entries = gone_after records written (ending records entries)

-- ---- what DELETEDSINCE sends

-- a deletion in the dataset, later than the time, of an entry that doesn't exist now
abbrev pub is_told : Stored → List ℕ → ℤ → Deletion → Bool
is_told records dataset since d =
    octets_eq d.path.dataset dataset && int_lt since d.moment && not (exists_at records d.path)

-- some names, each once, ascending in octets
abbrev pub Names : Type 0
Names = table.FinMap octets_cmp (Unit {0})

abbrev pub with_names : Names → List (List ℕ) → Names
with_names set [] = set
with_names set (name ∷ names) = with_names (table.insert set name tt) names

abbrev pub set_of : List (List ℕ) → Names
set_of names = with_names table.empty names

unfoldable pub ascending : List (List ℕ) → List (List ℕ)
ascending names = map (λ e. e.0) (table.entries (set_of names))

abbrev pub names_told : Store → List ℕ → ℤ → List (List ℕ)
names_told s dataset since = map (λ d. d.path.name) (filter (is_told s.records dataset since) s.deletions)

unfoldable pub names_deleted : Store → List ℕ → ℤ → List (List ℕ)
names_deleted s dataset since = ascending (names_told s dataset since)

-- whether a deletion later than the time may be forgotten
abbrev pub is_too_old : Store → ℤ → Bool
is_too_old s since = option_map_or (int_lt since) s.forgotten false

-- whether the user may read the names of the dataset's entries
abbrev pub may_read : Stored → Realm → List ℕ → List ℕ → Bool
may_read records realm user dataset = (rights_of records realm user (OfAttribute dataset (codes "entry"))).r

-- a user who may not read the names of the dataset's entries is sent none
unfoldable pub deleted_in : Store → Realm → List ℕ → List ℕ → ℤ → Result (List (List ℕ)) Refusal
deleted_in s realm user dataset since =
    if not (dataset_exists s.records dataset) then Err (refusals.NoExist dataset)
    else (if is_too_old s since then Err refusals.TooOld
    else Ok (if may_read s.records realm user dataset then names_deleted s dataset since else []))

-- `~` being replaced
abbrev pub deleted_since : Store → Realm → List ℕ → List ℕ → ℤ → Result (List (List ℕ)) Refusal
deleted_since s realm user dataset since = deleted_in s realm user (for_user user dataset) since
