-- What stands twice in a STORE, and its conditions [RFC 2244 section 6.6.1].
use Rattle.std.specs.Prelude.{ℤ, List, [], ◌∷◌, Bool, false, not, ◌&&◌, ◌||◌, int_lt, Option, Some, None}
use Rattle.std.specs.Prelude.{find, option_map, if◌then◌else◌}
use Rattle.std.specs.List.{list_any}
use Rattle.std.specs.Option.{option_or, option_map_or}
use Rattle.acap_entries.specs.Datasets.{dataset_exists}
use Rattle.acap_entries.specs.Orders.{octets_eq}
use Rattle.acap_entries.specs.Store.{Stored}
use Rattle.acap_entries.specs.declared.path.Path.{Path}
use Rattle.acap_commands.specs.declared.refusal.Refusal.{Refusal}
use Rattle.acap_commands.specs.declared.refusal.Refusal.TheVariants as refusals
use Rattle.acap_commands.specs.declared.store.StoreEntry.{StoreEntry}
use Rattle.acap_inherit.specs.Chains.{chain_of}
use Rattle.acap_inherit.specs.Resolving.{modtime_of}
use Rattle.acap_store.specs.Forms.{exists_at}

-- a refusal where a condition holds
abbrev pub refused_if : Bool → Refusal → Option Refusal
refused_if condition refusal = if condition then Some refusal else None

-- the first refusal of some
abbrev pub first_of : List (Option Refusal) → Option Refusal
first_of [] = None
first_of (refusal ∷ others) = option_or refusal (first_of others)

-- ---- what stands twice

abbrev pub same_path : Path → Path → Bool
same_path a b = octets_eq a.dataset b.dataset && octets_eq a.name b.name

-- two entries have one path
abbrev pub has_twice : List StoreEntry → Bool
has_twice [] = false
has_twice (e ∷ entries) = list_any (λ other. same_path other.path e.path) entries || has_twice entries

-- ---- NOCREATE: the entry's dataset has to exist

abbrev pub lacks_dataset : Stored → StoreEntry → Bool
lacks_dataset records e = e.modifiers.no_create && not (dataset_exists records e.path.dataset)

unfoldable pub no_exist : Stored → List StoreEntry → Option Refusal
no_exist records entries =
    option_map (λ e. refusals.NoExist e.path.dataset) (find (lacks_dataset records) entries)

-- ---- UNCHANGEDSINCE: an entry that exists may not have changed later than that

abbrev pub modtime_at : Stored → Path → Option ℤ
modtime_at records p = modtime_of records (chain_of records p.dataset false) p.name

abbrev pub is_later : Option ℤ → ℤ → Bool
is_later changed since = option_map_or (int_lt since) changed false

abbrev pub has_changed : Stored → StoreEntry → Bool
has_changed records e =
    option_map_or (λ since. exists_at records e.path && is_later (modtime_at records e.path) since)
    e.modifiers.unchanged_since false

unfoldable pub modified : Stored → List StoreEntry → Option Refusal
modified records entries = option_map (λ e. refusals.Modified e.path) (find (has_changed records) entries)
