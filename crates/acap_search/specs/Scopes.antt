-- Which datasets a search looks through [RFC 2244 sections 4.1 and 6.4.1].
use Rattle.std.specs.Prelude.{ℕ, suc, ◌==◌, Bool, not, ◌&&◌, ◌||◌, nat_eq, nat_lt, List, [], ◌∷◌, ◌++◌}
use Rattle.std.specs.Prelude.{length, drop, Option, Some, None, if◌then◌else◌}
use Rattle.std.specs.FinMap as map
use Rattle.std.specs.List.{filter, filter_map, starts_with}
use Rattle.std.specs.Option.{option_map_or}
use Rattle.acap_entries.specs.Datasets.{makes_dataset}
use Rattle.acap_entries.specs.FullPaths.{full_path}
use Rattle.acap_entries.specs.Names.{slash, is_slash, has}
use Rattle.acap_entries.specs.Store.{Stored}
use Rattle.acap_entries.specs.declared.path.Path.{Path}
use Rattle.acap_entries.specs.declared.record.Record.{Record}
use Rattle.acap_search.specs.declared.query.SearchSpec.{SearchSpec}

-- where a search looks: in a dataset, with DEPTH also beneath it, and whether what is inherited counts
pub record Scope : Type 0 where
  pub dataset : List ℕ
  pub depth : Option ℕ
  pub no_inherit : Bool

abbrev pub scope_of : SearchSpec → Scope
scope_of sought = record { dataset = sought.dataset; depth = sought.depth; no_inherit = sought.no_inherit }

-- the dataset that an entry makes, if it makes one; its name is one component
abbrev pub is_component_name : List ℕ → Bool
is_component_name name = not (length name == 0) && not (has slash name)

abbrev pub made_by : Path × Record → Option (List ℕ)
made_by e = if makes_dataset e.1 && is_component_name e.0.name then Some (full_path e.0 ++ slash ∷ [])
    else None

-- how many levels some octets go down
abbrev pub levels : List ℕ → ℕ
levels octets = length (filter is_slash octets)

-- DEPTH is a number of levels, of which the searched dataset is the first; 0 stands for all of them. A
-- dataset is one level below its own entry
abbrev pub is_reached : ℕ → ℕ → Bool
is_reached depth level = depth == 0 || nat_lt (suc level) depth

-- the dataset that an entry beneath the searched one makes, if it is reached
abbrev pub reached_by : List ℕ → ℕ → Path × Record → Option (List ℕ)
reached_by dataset depth e = if is_reached depth (levels (drop (length dataset) e.0.dataset)) then made_by e
    else None

-- the datasets beneath that exist and are reached, whoever may see the entries that lead there
unfoldable pub beneath : Stored → List ℕ → ℕ → List (List ℕ)
beneath records dataset depth =
    filter_map (reached_by dataset depth)
    (filter (λ e. starts_with nat_eq e.0.dataset dataset) (map.entries records))

-- without DEPTH the dataset alone
abbrev pub datasets_of : Stored → Scope → List (List ℕ)
datasets_of records scope = scope.dataset ∷ option_map_or (beneath records scope.dataset) scope.depth []
