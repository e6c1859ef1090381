-- What an attribute of an entry resolves to along a chain of datasets [RFC 2244 sections 3.1.1, 5.1 and 5.2].
use Rattle.std.specs.Prelude.{ℕ, ℤ, Bool, ◌==◌, List, [], ◌∷◌, length, take, map, Option, Some, None, is_some}
use Rattle.std.specs.Prelude.{codes, if◌then◌else◌}
use Rattle.std.specs.Int.{int_max}
use Rattle.std.specs.List.{filter_map}
use Rattle.std.specs.Option.{option_map_or}
use Rattle.acap_entries.specs.Orders.{octets_eq}
use Rattle.acap_entries.specs.Stamp.{stamp_of}
use Rattle.acap_entries.specs.Store.{Stored}
use Rattle.acap_entries.specs.declared.record.Cell.{Cell}
use Rattle.acap_entries.specs.declared.record.Cell.TheVariants.{Nil, Single, Multi}
use Rattle.acap_entries.specs.declared.record.Record.{Record}
use Rattle.acap_inherit.specs.Records.{record_at, cell_in, ends_inheritance}

-- a value and the dataset where it lies; None is NIL
abbrev pub Resolution : Type 0
Resolution = Option (Cell × List ℕ)

-- ---- values

-- what a cell answers: also NIL, which then lies nowhere
abbrev pub lying : Cell → List ℕ → Resolution
lying Nil dataset = None
lying (Single value) dataset = Some (Single value, dataset)
lying (Multi values) dataset = Some (Multi values, dataset)

-- a record with a cell answers it; any other answers NIL where inheritance ends at it, and else passes on
abbrev pub by_cell : Option Cell → Record → List ℕ → Resolution → Resolution
by_cell (Some cell) entry dataset beyond = lying cell dataset
by_cell None entry dataset beyond = if ends_inheritance entry then None else beyond

-- no record passes on
abbrev pub by_record : Option Record → List ℕ → List ℕ → Resolution → Resolution
by_record None attribute dataset beyond = beyond
by_record (Some entry) attribute dataset beyond = by_cell (cell_in entry attribute) entry dataset beyond

-- the value of a stored attribute, the end of the chain answering NIL
abbrev pub value_on : Stored → List (List ℕ) → List ℕ → List ℕ → Resolution
value_on records [] name attribute = None
value_on records (dataset ∷ chain) name attribute =
    by_record (record_at records dataset name) attribute dataset (value_on records chain name attribute)

-- ---- existence

-- the first record decides: the entry exists where it is present, and its name lies there
abbrev pub by_presence : Option Record → List ℕ → List ℕ → Resolution → Resolution
by_presence None name dataset beyond = beyond
by_presence (Some entry) name dataset beyond = if entry.present then Some (Single name, dataset) else None

abbrev pub entry_on : Stored → List (List ℕ) → List ℕ → Resolution
entry_on records [] name = None
entry_on records (dataset ∷ chain) name =
    by_presence (record_at records dataset name) name dataset (entry_on records chain name)

-- ---- moments

-- the records of an entry along a chain
abbrev pub records_along : Stored → List (List ℕ) → List ℕ → List Record
records_along records chain name = filter_map (λ dataset. record_at records dataset name) chain

-- from the first to the first at which inheritance ends
abbrev pub until_end : List Record → List Record
until_end [] = []
until_end (entry ∷ entries) = entry ∷ (if ends_inheritance entry then [] else until_end entries)

abbrev pub greatest : List ℤ → Option ℤ
greatest [] = None
greatest (moment ∷ moments) = Some (option_map_or (int_max moment) (greatest moments) moment)

-- the greatest moment of these records
abbrev pub modtime_on : Stored → List (List ℕ) → List ℕ → Option ℤ
modtime_on records chain name =
    greatest (map (λ entry. entry.modtime) (until_end (records_along records chain name)))

-- as a value it is the moment's stamp, and lies where it was looked for
abbrev pub stamp_value : List (List ℕ) → Option ℤ → Resolution
stamp_value chain None = None
stamp_value [] (Some moment) = None
stamp_value (dataset ∷ chain) (Some moment) = Some (Single (stamp_of moment), dataset)

-- ---- what is inherited

-- the management entry, whose name is empty, is not inherited: it is that of the first dataset alone
abbrev pub members_for : List (List ℕ) → List ℕ → List (List ℕ)
members_for chain name = if length name == 0 then take 1 chain else chain

-- neither is `subdataset`
abbrev pub members_of : List (List ℕ) → List ℕ → List ℕ → List (List ℕ)
members_of chain name attribute =
    if octets_eq attribute (codes "subdataset") then take 1 chain else members_for chain name

-- the answer to each attribute: the entry's name, its moment, and what is stored
unfoldable pub lookup : Stored → List (List ℕ) → List ℕ → List ℕ → Resolution
lookup records chain name attribute =
    if octets_eq attribute (codes "entry") then entry_on records (members_for chain name) name
    else (if octets_eq attribute (codes "modtime")
    then stamp_value chain (modtime_on records (members_for chain name) name)
    else value_on records (members_of chain name attribute) name attribute)

-- whether the entry exists
unfoldable pub entry_exists : Stored → List (List ℕ) → List ℕ → Bool
entry_exists records chain name = is_some (entry_on records (members_for chain name) name)

-- the moment of its last change, which one that was deleted has too
unfoldable pub modtime_of : Stored → List (List ℕ) → List ℕ → Option ℤ
modtime_of records chain name = modtime_on records (members_for chain name) name
