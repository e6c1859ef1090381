-- Whether a search looks through a dataset, as it is found without a walk: words of contracts.
use Rattle.std.specs.Prelude.{ℕ, ◌==◌, Bool, ◌&&◌, ◌||◌, ◌↔◌, IsTrue, nat_eq, nat_lt, List, length, drop}
use Rattle.std.specs.Prelude.{Option, false, refl}
use Rattle.std.specs.Coded.{Coded, code_by, coded×, coded_ℕ, coded_bool, coded_list, coded_option}
use Rattle.std.specs.List.{starts_with, Contains}
use Rattle.std.specs.Option.{option_map_or}
use Rattle.acap_entries.specs.Datasets.{dataset_exists}
use Rattle.acap_entries.specs.FullPaths.{AreWellFormed}
use Rattle.acap_entries.specs.Orders.{octets_eq}
use Rattle.acap_entries.specs.Store.{Stored}
use Rattle.acap_search.specs.Scopes.{Scope, levels, datasets_of}

-- where the paths of all records are well formed, as in each
-- store: whether a dataset is among those that are looked through
abbrev pub SaysWhether : Stored → Scope → List ℕ → Bool → Type 0
SaysWhether records scope dataset answer =
    AreWellFormed records → IsTrue answer ↔ Contains (datasets_of records scope) dataset

-- whether the name of a dataset begins with the searched one's,
-- and it lies less than `depth` levels beneath, 0 standing for any
abbrev pub lies_within : List ℕ → ℕ → List ℕ → Bool
lies_within searched depth dataset =
    starts_with nat_eq dataset searched
    && (depth == 0 || nat_lt (levels (drop (length searched) dataset)) depth)

-- the searched dataset itself, and with DEPTH one that lies so and exists
abbrev pub is_looked_in : Stored → Scope → List ℕ → Bool
is_looked_in records scope dataset =
    octets_eq dataset scope.dataset
    || option_map_or (λ depth. lies_within scope.dataset depth dataset && dataset_exists records dataset)
    scope.depth false

-- how scopes are told apart in proofs
abbrev pub scope_code : Coded Scope
scope_code =
    code_by (List ℕ × (Option ℕ × Bool))
    (coded× (coded_list coded_ℕ) (coded× (coded_option coded_ℕ) coded_bool))
    (λ s. (s.dataset, (s.depth, s.no_inherit)))
    (λ p. record { dataset = p.0; depth = p.1.0; no_inherit = p.1.1 }) (λ _. refl)
