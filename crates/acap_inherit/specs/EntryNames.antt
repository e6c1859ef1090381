-- The names that entries have along a chain [RFC 2244 sections 3.1 and 5.1].
use Rattle.std.specs.Prelude.{ℕ, List, map as each}
use Rattle.std.specs.FinMap as map
use Rattle.std.specs.List.{filter, flat_map}
use Rattle.acap_entries.specs.Orders.{octets_cmp, octets_eq}
use Rattle.acap_entries.specs.Store.{Stored}

-- the names that have a record in a dataset
abbrev pub names_in : Stored → List ℕ → List (List ℕ)
names_in records dataset =
    each (λ e. e.0.name) (filter (λ e. octets_eq dataset e.0.dataset) (map.entries records))

-- the set of some names, as the map that has nothing at each of them
abbrev pub set_of : List (List ℕ) → map.FinMap octets_cmp (Unit {0})
set_of names = map.from_entries (each (λ name. (name, tt)) names)

-- the names of several lists, each once, in the order of their octets
unfoldable pub union_of : List (List (List ℕ)) → List (List ℕ)
union_of lists = map.keys (set_of (flat_map (λ names. names) lists))

-- the names that have a record in a dataset of the chain
abbrev pub names_on : Stored → List (List ℕ) → List (List ℕ)
names_on records chain = union_of (each (names_in records) chain)
