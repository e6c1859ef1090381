-- A value that is lent, as the value that it is.
use Rattle.std.specs.Prelude.{◌≡◌, ℕ, ℤ, Bool, List, map, Option, Some, None}
use Rattle.std.specs.Borrow.{Bor}
use Rattle.acap_entries.specs.declared.record.Cell.{Cell}
use Rattle.acap_entries.specs.declared.record.Cell.TheVariants as cell
use Rattle.acap_inherit.specs.declared.lent.Lent.{Lent}
use Rattle.acap_inherit.specs.declared.lent.Lent.TheVariants.{Name, Single, Multi, Stamp}
use Rattle.acap_inherit.specs.declared.found.Found.{Found}
use Rattle.acap_inherit.specs.declared.found.Found.TheVariants.{Nil, At}
use Rattle.acap_entries.specs.Store.{Store}
use Rattle.acap_inherit.specs.Chains.{chain_of}
use Rattle.acap_inherit.specs.Resolving.{Resolution, value_on, entry_on, modtime_on, lookup}

abbrev pub cell_of : Lent → Cell
cell_of (Name text) = cell.Single text.now
cell_of (Single text) = cell.Single text.now
cell_of (Multi texts) = cell.Multi texts.now
cell_of (Stamp digits) = cell.Single digits

abbrev pub found_of : Found → Resolution
found_of Nil = None
found_of (At dataset value) = Some (cell_of value, dataset.now)

-- what an attribute resolves to along the chain of a dataset
abbrev pub resolved_in : Store → List ℕ → Bool → List ℕ → List ℕ → Resolution
resolved_in store dataset no_inherit name attribute =
    lookup store.records (chain_of store.records dataset no_inherit) name attribute

abbrev pub Resolves : Store → List ℕ → Bool → List ℕ → List ℕ → Found → Type 0
Resolves store dataset no_inherit name attribute found =
    found_of found ≡ resolved_in store dataset no_inherit name attribute

-- datasets that are lent, and what an entry has along them: a value, its name, its moment
abbrev pub names_of : List (Bor (List ℕ)) → List (List ℕ)
names_of members = map (λ d. d.now) members

abbrev pub value_along : Store → List (Bor (List ℕ)) → List ℕ → List ℕ → Resolution
value_along store members name attribute = value_on store.records (names_of members) name attribute

abbrev pub entry_along : Store → List (Bor (List ℕ)) → List ℕ → Resolution
entry_along store members name = entry_on store.records (names_of members) name

abbrev pub modtime_along : Store → List (Bor (List ℕ)) → List ℕ → Option ℤ
modtime_along store members name = modtime_on store.records (names_of members) name
