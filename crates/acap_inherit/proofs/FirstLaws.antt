-- Which record decides, and what is not inherited.
use Rattle.std.proofs.Common.{◌≡◌, ℕ, ℤ, ◌≤ℤ◌, true, false, cond, List, [], ◌∷◌, map, Option, Some, None, arith, refl, sym, ap, subst, ◌∙◌}
use Rattle.std.specs.Prelude.{codes, is_some, if◌then◌else◌, slice_get, int_lt}
use Rattle.std.specs.Int.{int_max}
use Rattle.std.specs.List.{cons_option, Contains, All}
use Rattle.std.specs.Option.{option_map, option_map_or, option_and_then}
use Rattle.std.proofs.lemmas.Int.{ints, int_max_is}
use Rattle.std.proofs.lemmas.List.Elements.{All-cons}
use Rattle.std.proofs.lemmas.Option.{same_Some}
use Rattle.acap_entries.specs.Orders.{octets_eq}
use Rattle.acap_entries.specs.Stamp.{stamp_of}
use Rattle.acap_entries.specs.Store.{Stored}
use Rattle.acap_entries.specs.declared.record.Cell.{Cell}
use Rattle.acap_entries.specs.declared.record.Cell.TheVariants.{Single}
use Rattle.acap_entries.specs.declared.record.Record.{Record}
use Rattle.acap_ordmap.proofs.Logic.{Contains-here, Contains-there}
use Rattle.acap_inherit.specs.Records.{record_at, cell_in, ends_inheritance}
use Rattle.acap_inherit.specs.Resolving.{Resolution, lying, by_cell, by_record, by_presence, value_on, entry_on, records_along, until_end, greatest, modtime_on, stamp_value, members_for, members_of, lookup, entry_exists, modtime_of}
use Rattle.acap_inherit.specs.Laws.{FirstLaw, MomentLaw, FirstDatasetLaw, placed_records, down_to_end, cells_among}

-- ---- the first record that tells of it

abbrev told_by : Option (Cell × List ℕ) → Resolution
told_by found = option_and_then (λ f. lying f.0 f.1) found

cell_first : (cell : Option Cell) (entry : Record) (attribute dataset : List ℕ) (places : List (List ℕ × Record)) (beyond : Resolution) → beyond ≡ told_by (slice_get (cells_among attribute (down_to_end places)) 0)
    → by_cell cell entry dataset beyond ≡ told_by (slice_get (cons_option (option_map (λ c. (c, dataset)) cell) (cells_among attribute (if ends_inheritance entry then [] else down_to_end places))) 0)
cell_first (Some cell) entry attribute dataset places beyond e = refl
cell_first None entry attribute dataset places beyond e =
    elim (ends_inheritance entry) as (λ b. (if b then None else beyond) ≡ told_by (slice_get (cells_among attribute (if b then [] else down_to_end places)) 0)) [ true ↦ refl | false ↦ e ]

record_first : (entry : Option Record) (attribute dataset : List ℕ) (places : List (List ℕ × Record)) (beyond : Resolution) → beyond ≡ told_by (slice_get (cells_among attribute (down_to_end places)) 0)
    → by_record entry attribute dataset beyond ≡ told_by (slice_get (cells_among attribute (down_to_end (cons_option (option_map (λ r. (dataset, r)) entry) places))) 0)
record_first None attribute dataset places beyond e = e
record_first (Some entry) attribute dataset places beyond e = cell_first (cell_in entry attribute) entry attribute dataset places beyond e

value_first : (records : Stored) (chain : List (List ℕ)) (name attribute : List ℕ) → value_on records chain name attribute ≡ told_by (slice_get (cells_among attribute (down_to_end (placed_records records chain name))) 0)
value_first records [] name attribute = refl
value_first records (dataset ∷ chain) name attribute =
    record_first (record_at records dataset name) attribute dataset (placed_records records chain name) (value_on records chain name attribute) (value_first records chain name attribute)

pub stored_value : (records : Stored) (chain : List (List ℕ)) (name attribute : List ℕ) → octets_eq attribute (codes "entry") ≡ false → octets_eq attribute (codes "modtime") ≡ false
    → lookup records chain name attribute ≡ value_on records (members_of chain name attribute) name attribute
unfolding lookup
stored_value records chain name attribute e m =
    ap (λ b. if b then entry_on records (members_for chain name) name else (if octets_eq attribute (codes "modtime") then stamp_value chain (modtime_on records (members_for chain name) name) else value_on records (members_of chain name attribute) name attribute)) e
    ∙ ap (λ b. if b then stamp_value chain (modtime_on records (members_for chain name) name) else value_on records (members_of chain name attribute) name attribute) m

abbrev present_at : List ℕ → Option (List ℕ × Record) → Resolution
present_at name place = option_and_then (λ p. if p.1.present then Some (Single name, p.0) else None) place

presence_first : (entry : Option Record) (name dataset : List ℕ) (places : List (List ℕ × Record)) (beyond : Resolution) → beyond ≡ present_at name (slice_get places 0)
    → by_presence entry name dataset beyond ≡ present_at name (slice_get (cons_option (option_map (λ r. (dataset, r)) entry) places) 0)
presence_first None name dataset places beyond e = e
presence_first (Some entry) name dataset places beyond e = refl

entry_first : (records : Stored) (chain : List (List ℕ)) (name : List ℕ) → entry_on records chain name ≡ present_at name (slice_get (placed_records records chain name) 0)
entry_first records [] name = refl
entry_first records (dataset ∷ chain) name =
    presence_first (record_at records dataset name) name dataset (placed_records records chain name) (entry_on records chain name) (entry_first records chain name)

entry_of : (records : Stored) (chain : List (List ℕ)) (name : List ℕ) → lookup records chain name (codes "entry") ≡ present_at name (slice_get (placed_records records (members_for chain name) name) 0)
unfolding lookup
entry_of records chain name = entry_first records (members_for chain name) name

existence_of : (records : Stored) (chain : List (List ℕ)) (name : List ℕ) → entry_exists records chain name ≡ is_some (lookup records chain name (codes "entry"))
unfolding lookup entry_exists
existence_of records chain name = refl

pub first_law : FirstLaw
first_law = record {
  value = λ records chain name attribute e m. stored_value records chain name attribute e m ∙ value_first records (members_of chain name attribute) name attribute;
  entry = entry_of;
  existence = existence_of;
}

-- ---- the greatest moment

reached : (moments : List ℤ) (moment : ℤ) → greatest moments ≡ Some moment → Contains moments moment
reached [] moment e = cc
reached (m ∷ moments) moment e =
    elim (greatest moments) as (λ g. greatest moments ≡ g → Some (option_map_or (int_max m) g m) ≡ Some moment → Contains (m ∷ moments) moment) [
      | None ↦ λ g e. subst (λ x. Contains (m ∷ moments) x) (same_Some _ _ e) (Contains-here m moments)
      | Some n ↦ λ g e. subst (λ x. Contains (m ∷ moments) x) (same_Some _ _ e)
          (elim (int_lt n m) as (λ b. Contains (m ∷ moments) (cond b m n)) [ true ↦ Contains-here m moments | false ↦ Contains-there m n moments (reached moments n g) ])
    ] refl e

empty : (moments : List ℤ) → greatest moments ≡ None → moments ≡ []
empty [] e = refl
empty (m ∷ moments) e = cc

bound : (moments : List ℤ) (moment : ℤ) → greatest moments ≡ Some moment → All (λ other. other ≤ℤ moment) moments
bound [] moment e = cc
bound (m ∷ moments) moment e =
    elim (greatest moments) as (λ g. greatest moments ≡ g → Some (option_map_or (int_max m) g m) ≡ Some moment → All (λ other. other ≤ℤ moment) (m ∷ moments)) [
      | None ↦ λ g e.
          let same : m ≡ moment = same_Some _ _ e in
          let none : moments ≡ [] = empty moments g in
          All-cons (λ other. other ≤ℤ moment) m moments (omega (arith, ints)) (subst (λ ms. All (λ other. other ≤ℤ moment) ms) (sym none) (λ k d h. absurd (omega arith)))
      | Some n ↦ λ g e.
          let same : int_max m n ≡ moment = same_Some _ _ e in
          let top = int_max_is m n in
          let below = bound moments n g in
          All-cons (λ other. other ≤ℤ moment) m moments (omega (arith, ints)) (λ k d h. let b = below k d h in omega (arith, ints))
    ] refl e

moment_none : (entries : List Record) → greatest (map (λ (entry : Record). entry.modtime) (until_end entries)) ≡ None → entries ≡ []
moment_none [] e = refl
moment_none (entry ∷ entries) e = cc

reached_of : (records : Stored) (chain : List (List ℕ)) (name : List ℕ) (moment : ℤ) → modtime_of records chain name ≡ Some moment → Contains (map (λ (entry : Record). entry.modtime) (until_end (records_along records (members_for chain name) name))) moment
unfolding modtime_of
reached_of records chain name moment e = reached _ moment e

bound_of : (records : Stored) (chain : List (List ℕ)) (name : List ℕ) (moment : ℤ) → modtime_of records chain name ≡ Some moment → All (λ other. other ≤ℤ moment) (map (λ (entry : Record). entry.modtime) (until_end (records_along records (members_for chain name) name)))
unfolding modtime_of
bound_of records chain name moment e = bound _ moment e

none_of : (records : Stored) (chain : List (List ℕ)) (name : List ℕ) → modtime_of records chain name ≡ None → records_along records (members_for chain name) name ≡ []
unfolding modtime_of
none_of records chain name e = moment_none _ e

as_stamp : (dataset : List ℕ) (chain : List (List ℕ)) (moment : Option ℤ) → stamp_value (dataset ∷ chain) moment ≡ option_map (λ m. (Single (stamp_of m), dataset)) moment
as_stamp dataset chain None = refl
as_stamp dataset chain (Some moment) = refl

shown : (records : Stored) (dataset : List ℕ) (chain : List (List ℕ)) (name : List ℕ) → lookup records (dataset ∷ chain) name (codes "modtime") ≡ option_map (λ m. (Single (stamp_of m), dataset)) (modtime_of records (dataset ∷ chain) name)
unfolding lookup modtime_of
shown records dataset chain name = as_stamp dataset chain (modtime_on records (members_for (dataset ∷ chain) name) name)

pub moment_law : MomentLaw
moment_law = record { shown = shown; reached = reached_of; bound = bound_of; none = none_of }

-- ---- the first dataset alone

stamped_first : (dataset : List ℕ) (chain : List (List ℕ)) (moment : Option ℤ) → stamp_value (dataset ∷ chain) moment ≡ stamp_value (dataset ∷ []) moment
stamped_first dataset chain None = refl
stamped_first dataset chain (Some moment) = refl

management : (records : Stored) (dataset : List ℕ) (chain : List (List ℕ)) (attribute : List ℕ) → lookup records (dataset ∷ chain) [] attribute ≡ lookup records (dataset ∷ []) [] attribute
unfolding lookup
management records dataset chain attribute =
    let stamps = stamped_first dataset chain (modtime_on records (dataset ∷ []) []) in
    let values = elim (octets_eq attribute (codes "subdataset")) as (λ b. value_on records (if b then dataset ∷ [] else dataset ∷ []) [] attribute ≡ value_on records (if b then dataset ∷ [] else dataset ∷ []) [] attribute) [ true ↦ refl | false ↦ refl ] in
    λ i. if octets_eq attribute (codes "entry") then entry_on records (dataset ∷ []) [] else (if octets_eq attribute (codes "modtime") then stamps i else values i)

subdataset_first : (records : Stored) (dataset : List ℕ) (chain : List (List ℕ)) (name : List ℕ) → lookup records (dataset ∷ chain) name (codes "subdataset") ≡ lookup records (dataset ∷ []) name (codes "subdataset")
unfolding lookup
subdataset_first records dataset chain name = refl

existence_first : (records : Stored) (dataset : List ℕ) (chain : List (List ℕ)) → entry_exists records (dataset ∷ chain) [] ≡ entry_exists records (dataset ∷ []) []
unfolding entry_exists
existence_first records dataset chain = refl

moment_first : (records : Stored) (dataset : List ℕ) (chain : List (List ℕ)) → modtime_of records (dataset ∷ chain) [] ≡ modtime_of records (dataset ∷ []) []
unfolding modtime_of
moment_first records dataset chain = refl

pub first_dataset_law : FirstDatasetLaw
first_dataset_law = record { attribute = management; existence = existence_first; moment = moment_first; subdataset = subdataset_first }
