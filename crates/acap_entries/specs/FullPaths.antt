-- Paths as their full octets, in which order answers and notices come [RFC 2244 sections 3.1 and 6.4.1].
use Rattle.std.specs.Prelude.{◌≡◌, ℕ, Bool, false, List, ◌++◌, IsTrue, Some}
use Rattle.std.specs.FinMap as map
use Rattle.std.specs.declared.cmp.Ordering.{Ordering}
use Rattle.acap_entries.specs.Homes.{for_user}
use Rattle.acap_entries.specs.Names.{slash, has, ends_with, dataset_of, name_of, is_closed_dataset}
use Rattle.acap_entries.specs.Names.{is_entry_name, are_parts}
use Rattle.acap_entries.specs.Orders.{octets_cmp}
use Rattle.acap_ordmap.specs.Sorted.{InOrder}
use Rattle.acap_entries.specs.Store.{path_cmp}
use Rattle.acap_entries.specs.declared.path.Path.{Path}

-- the path of a dataset and a name, and its parts
abbrev pub path_of : List ℕ → List ℕ → Path
path_of dataset name = record { dataset = dataset; name = name }

abbrev pub parts_of : Path → List ℕ × List ℕ
parts_of p = (p.dataset, p.name)

-- the path that octets are, as a client sends them
abbrev pub path_in : List ℕ → Path
path_in octets = path_of (dataset_of octets) (name_of octets)

-- the path that a user means
abbrev pub path_for : List ℕ → Path → Path
path_for user p = record p { dataset = for_user user p.dataset }

-- the dataset and then the name
abbrev pub full_path : Path → List ℕ
full_path p = p.dataset ++ p.name

-- octet by octet, a proper prefix first. This is another order than that by dataset and then by name: the
-- entry `a!` of a dataset comes before the entries of its dataset `a/`, since `!` is less than `/`
abbrev pub full_path_cmp : Path → Path → Ordering
full_path_cmp a b = octets_cmp (full_path a) (full_path b)

-- the dataset ends in `/`, and the name has none: octets fall into these two parts in one way
pub record IsSplit (p : Path) : Type 0 where
  pub dataset : IsTrue (ends_with slash p.dataset)
  pub name : has slash p.name ≡ false

-- the dataset and the name have the form of such names, as those of each path have that is at hand
pub record IsWellFormed (p : Path) : Type 0 where
  pub dataset : IsTrue (is_closed_dataset p.dataset)
  pub name : IsTrue (is_entry_name p.name)

abbrev pub is_well_formed : Path → Bool
is_well_formed p = are_parts p.dataset p.name

-- in a map from paths, each path at which something stands is well formed
abbrev pub AreWellFormed : {X : Type 0} → map.FinMap path_cmp X → Type 0
AreWellFormed {X} at = (p : Path) (x : X) → map.get at p ≡ Some x → IsWellFormed p

-- entries in the order of their paths, each of which is well formed
pub record AreInForm {X : Type 0} (entries : List (Path × X)) : Type 0 where
  pub sorted : InOrder path_cmp entries
  pub formed : AreWellFormed {X = X} (map.from_sorted entries)
