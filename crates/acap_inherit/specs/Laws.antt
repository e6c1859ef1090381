-- What follows from the definitions alone [RFC 2244 sections 5.1 and 5.2].
use Rattle.std.specs.Prelude.{◌≡◌, ◌≤◌, ◌<◌, ℕ, ℤ, ◌+◌, ◌≤ℤ◌, Bool, true, false, IsTrue, List, [], ◌∷◌, ◌++◌}
use Rattle.std.specs.Prelude.{length, take, map, Some, None, is_some, slice_get, codes, if◌then◌else◌}
use Rattle.std.specs.List.{list_any, filter_map, Contains, All}
use Rattle.std.specs.Option.{option_map, option_and_then}
use Rattle.acap_entries.specs.Orders.{octets_eq}
use Rattle.acap_entries.specs.Stamp.{stamp_of}
use Rattle.acap_entries.specs.Store.{Stored}
use Rattle.acap_entries.specs.declared.record.Cell.{Cell}
use Rattle.acap_entries.specs.declared.record.Cell.TheVariants.{Single}
use Rattle.acap_entries.specs.declared.record.Record.{Record}
use Rattle.acap_inherit.specs.Chains.{name_in, base_at, chain_of}
use Rattle.acap_inherit.specs.EntryNames.{names_on}
use Rattle.acap_inherit.specs.Merging.{is_rising}
use Rattle.acap_inherit.specs.Records.{record_at, cell_in, ends_inheritance}
use Rattle.acap_inherit.specs.Resolving.{lying, records_along, until_end, members_for, members_of, lookup}
use Rattle.acap_inherit.specs.Resolving.{entry_exists, modtime_of}

-- a chain begins with its dataset and has at most eight names, of which each of the first seven names the
-- next, or none where it is the last; where nothing is to be inherited it is its first name alone
pub record ChainLaw : Type 0 where
  pub first : (records : Stored) (dataset : List ℕ) (no_inherit : Bool)
      → slice_get (chain_of records dataset no_inherit) 0 ≡ Some dataset
  pub few : (records : Stored) (dataset : List ℕ) (no_inherit : Bool)
      → length (chain_of records dataset no_inherit) ≤ 8
  pub next : (records : Stored) (dataset : List ℕ) (i : ℕ) (member : List ℕ) → i < 7
      → slice_get (chain_of records dataset false) i ≡ Some member
      → base_at records member ≡ slice_get (chain_of records dataset false) (i + 1)
  pub alone : (records : Stored) (dataset : List ℕ)
      → chain_of records dataset true ≡ take 1 (chain_of records dataset false)

-- a dataset inherits from the one that its management entry's
-- `dataset.inherit` resolves to, if that is one string
abbrev pub BaseLaw : Type 0
BaseLaw =
    (records : Stored) (dataset : List ℕ)
    → base_at records dataset
    ≡ option_and_then (λ found. name_in found.0)
    (lookup records (dataset ∷ []) [] (codes "dataset.inherit"))

-- that a dataset comes again in a chain changes nothing
pub record RepeatLaw : Type 0 where
  pub attribute : (records : Stored) (front between rest : List (List ℕ)) (dataset name attribute : List ℕ)
      → lookup records (front ++ dataset ∷ (between ++ dataset ∷ rest)) name attribute
      ≡ lookup records (front ++ dataset ∷ (between ++ rest)) name attribute
  pub existence : (records : Stored) (front between rest : List (List ℕ)) (dataset name : List ℕ)
      → entry_exists records (front ++ dataset ∷ (between ++ dataset ∷ rest)) name
      ≡ entry_exists records (front ++ dataset ∷ (between ++ rest)) name
  pub moment : (records : Stored) (front between rest : List (List ℕ)) (dataset name : List ℕ)
      → modtime_of records (front ++ dataset ∷ (between ++ dataset ∷ rest)) name
      ≡ modtime_of records (front ++ dataset ∷ (between ++ rest)) name
  pub names : (records : Stored) (front between rest : List (List ℕ)) (dataset : List ℕ)
      → names_on records (front ++ dataset ∷ (between ++ dataset ∷ rest))
      ≡ names_on records (front ++ dataset ∷ (between ++ rest))

-- the records of an entry along a chain with their datasets, down to the
-- first at which inheritance ends, and what these have for an attribute
abbrev pub placed_records : Stored → List (List ℕ) → List ℕ → List (List ℕ × Record)
placed_records records chain name =
    filter_map (λ dataset. option_map (λ entry. (dataset, entry)) (record_at records dataset name)) chain

abbrev pub down_to_end : List (List ℕ × Record) → List (List ℕ × Record)
down_to_end [] = []
down_to_end (place ∷ places) = place ∷ (if ends_inheritance place.1 then [] else down_to_end places)

abbrev pub cells_among : List ℕ → List (List ℕ × Record) → List (Cell × List ℕ)
cells_among attribute places =
    filter_map (λ place. option_map (λ cell. (cell, place.0)) (cell_in place.1 attribute)) places

-- the same said of the list of an entry's records: a stored attribute is the first cell, NIL or not, down to
-- the end of inheritance; the entry exists, and its name lies, where the first record is, if that is present
pub record FirstLaw : Type 0 where
  pub value : (records : Stored) (chain : List (List ℕ)) (name attribute : List ℕ)
      → octets_eq attribute (codes "entry") ≡ false → octets_eq attribute (codes "modtime") ≡ false
      → lookup records chain name attribute
      ≡ option_and_then (λ found. lying found.0 found.1)
      (slice_get
      (cells_among attribute
      (down_to_end (placed_records records (members_of chain name attribute) name))) 0)
  pub entry : (records : Stored) (chain : List (List ℕ)) (name : List ℕ)
      → lookup records chain name (codes "entry")
      ≡ option_and_then (λ place. if place.1.present then Some (Single name, place.0) else None)
      (slice_get (placed_records records (members_for chain name) name) 0)
  pub existence : (records : Stored) (chain : List (List ℕ)) (name : List ℕ)
      → entry_exists records chain name ≡ is_some (lookup records chain name (codes "entry"))

-- the moments of an entry's records down to the end of inheritance
abbrev pub moments_of : Stored → List (List ℕ) → List ℕ → List ℤ
moments_of records chain name =
    map (λ entry. entry.modtime) (until_end (records_along records (members_for chain name) name))

-- an entry's moment is one of these and none of them is later; it has none only where there is no record;
-- `modtime` is its stamp, and lies in the first dataset of the chain
pub record MomentLaw : Type 0 where
  pub shown : (records : Stored) (dataset : List ℕ) (chain : List (List ℕ)) (name : List ℕ)
      → lookup records (dataset ∷ chain) name (codes "modtime")
      ≡ option_map (λ moment. (Single (stamp_of moment), dataset))
      (modtime_of records (dataset ∷ chain) name)
  pub reached : (records : Stored) (chain : List (List ℕ)) (name : List ℕ) (moment : ℤ)
      → modtime_of records chain name ≡ Some moment → Contains (moments_of records chain name) moment
  pub bound : (records : Stored) (chain : List (List ℕ)) (name : List ℕ) (moment : ℤ)
      → modtime_of records chain name ≡ Some moment
      → All (λ other. other ≤ℤ moment) (moments_of records chain name)
  pub none : (records : Stored) (chain : List (List ℕ)) (name : List ℕ) → modtime_of records chain name ≡ None
      → records_along records (members_for chain name) name ≡ []

-- the management entry and `subdataset` are those of the first dataset alone
pub record FirstDatasetLaw : Type 0 where
  pub attribute : (records : Stored) (dataset : List ℕ) (chain : List (List ℕ)) (attribute : List ℕ)
      → lookup records (dataset ∷ chain) [] attribute ≡ lookup records (dataset ∷ []) [] attribute
  pub existence : (records : Stored) (dataset : List ℕ) (chain : List (List ℕ))
      → entry_exists records (dataset ∷ chain) [] ≡ entry_exists records (dataset ∷ []) []
  pub moment : (records : Stored) (dataset : List ℕ) (chain : List (List ℕ))
      → modtime_of records (dataset ∷ chain) [] ≡ modtime_of records (dataset ∷ []) []
  pub subdataset : (records : Stored) (dataset : List ℕ) (chain : List (List ℕ)) (name : List ℕ)
      → lookup records (dataset ∷ chain) name (codes "subdataset")
      ≡ lookup records (dataset ∷ []) name (codes "subdataset")

-- what no record of a chain has is NIL, and an entry without a
-- record there doesn't exist; what is found lies in the chain
pub record NothingLaw : Type 0 where
  pub attribute : (records : Stored) (chain : List (List ℕ)) (name attribute : List ℕ)
      → octets_eq attribute (codes "entry") ≡ false → octets_eq attribute (codes "modtime") ≡ false
      → ((dataset : List ℕ) → Contains chain dataset
      → option_and_then (λ entry. cell_in entry attribute) (record_at records dataset name) ≡ None)
      → lookup records chain name attribute ≡ None
  pub entry : (records : Stored) (chain : List (List ℕ)) (name : List ℕ)
      → ((dataset : List ℕ) → Contains chain dataset → record_at records dataset name ≡ None)
      → (entry_exists records chain name ≡ false) × (modtime_of records chain name ≡ None)
      × ((attribute : List ℕ) → lookup records chain name attribute ≡ None)
  pub within : (records : Stored) (chain : List (List ℕ)) (name attribute : List ℕ) (cell : Cell)
      (dataset : List ℕ)
      → lookup records chain name attribute ≡ Some (cell, dataset) → Contains chain dataset

-- two stores have the same record of an entry in each of some datasets
abbrev pub AgreeOn : Stored → Stored → List (List ℕ) → List ℕ → Type 0
AgreeOn old new datasets name =
    (dataset : List ℕ) → Contains datasets dataset → record_at old dataset name ≡ record_at new dataset name

-- what is read: of a chain the management entries of its first seven datasets, and of an entry its records
-- along the part of the chain that counts. Where two stores agree on these the answers are the same
pub record ReadingLaw : Type 0 where
  pub chain : (old new : Stored) (dataset : List ℕ) (no_inherit : Bool)
      → AgreeOn old new (take 7 (chain_of old dataset no_inherit)) []
      → chain_of old dataset no_inherit ≡ chain_of new dataset no_inherit
  pub attribute : (old new : Stored) (chain : List (List ℕ)) (name attribute : List ℕ)
      → AgreeOn old new (members_of chain name attribute) name
      → lookup old chain name attribute ≡ lookup new chain name attribute
  pub existence : (old new : Stored) (chain : List (List ℕ)) (name : List ℕ)
      → AgreeOn old new (members_for chain name) name
      → entry_exists old chain name ≡ entry_exists new chain name
  pub moment : (old new : Stored) (chain : List (List ℕ)) (name : List ℕ)
      → AgreeOn old new (members_for chain name) name → modtime_of old chain name ≡ modtime_of new chain name
  pub names : (old new : Stored) (chain : List (List ℕ))
      → ((name dataset : List ℕ) → Contains chain dataset
      → is_some (record_at old dataset name) ≡ is_some (record_at new dataset name))
      → names_on old chain ≡ names_on new chain

-- the names along a chain are those that have a record there, and they strictly rise, so that each comes once
pub record NamesLaw : Type 0 where
  pub names : (records : Stored) (chain : List (List ℕ)) (name : List ℕ)
      → list_any (octets_eq name) (names_on records chain)
      ≡ list_any (λ dataset. is_some (record_at records dataset name)) chain
  pub rising : (records : Stored) (chain : List (List ℕ)) → IsTrue (is_rising (names_on records chain))
