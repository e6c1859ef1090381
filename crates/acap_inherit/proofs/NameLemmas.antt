-- The names of a dataset's records rise, since its records lie in the order of their paths.
use Rattle.std.proofs.Common.{◌≡◌, ℕ, Bool, true, false, cond, T, List, [], ◌∷◌, map, length, take, refl, sym, ap, ◌∙◌}
use Rattle.std.specs.Prelude.{filter}
use Rattle.std.proofs.Math.Seq.{take-length}
use Rattle.std.specs.FinMap as stored
use Rattle.std.specs.FinMap.{is_sorted}
use Rattle.std.specs.FinMap.Entries.{below_all}
use Rattle.std.specs.Ordering.{is_lt, ordering_then}
use Rattle.std.specs.Cmp.{tied_itself}
use Rattle.std.specs.Cmp.Lexicographic.{nat_list_cmp_total, same_text}
use Rattle.std.proofs.lemmas.Bool.{and_from}
use Rattle.acap_entries.specs.Orders.{octets_cmp, octets_eq}
use Rattle.acap_entries.specs.Store.{Stored, path_cmp}
use Rattle.acap_entries.specs.declared.path.Path.{Path}
use Rattle.acap_entries.specs.declared.record.Record.{Record}
use Rattle.acap_ordmap.proofs.Logic.{first_T, second_T, true_from_T}
use Rattle.acap_inherit.specs.EntryNames.{names_in}
use Rattle.acap_inherit.specs.Merging.{is_below, is_rising}
use Rattle.acap_inherit.proofs.MergeLemmas.{all_rising}

abbrev lies_in : List ℕ → Path × Record → Bool
lies_in dataset e = octets_eq dataset e.0.dataset

-- in one dataset paths are in the order of their names
pub by_name : (d : List ℕ) (p q : Path) → d ≡ p.dataset → d ≡ q.dataset → path_cmp p q ≡ octets_cmp p.name q.name
by_name d p q e f =
    (λ i. ordering_then (octets_cmp (sym e i) (sym f i)) (octets_cmp p.name q.name))
    ∙ ap (λ r. ordering_then r (octets_cmp p.name q.name)) (tied_itself nat_list_cmp_total d)

below_names : (d : List ℕ) (p : Path) → d ≡ p.dataset → (es : List (Path × Record)) → T (below_all path_cmp p es) → is_below p.name (map (λ e. e.0.name) (filter (lies_in d) es)) ≡ true
below_names d p h [] b = refl
below_names d p h (e ∷ es) b =
    elim (lies_in d e) as (λ t. lies_in d e ≡ t → is_below p.name (map (λ e. e.0.name) (cond t (e ∷ filter (lies_in d) es) (filter (lies_in d) es))) ≡ true) [
      | true ↦ λ t. and_from _ _ (sym (ap is_lt (by_name d p e.0 h (same_text d e.0.dataset (sym t)))) ∙ true_from_T _ (first_T _ _ b)) (below_names d p h es (second_T _ _ b))
      | false ↦ λ t. below_names d p h es (second_T _ _ b)
    ] refl

rising_names : (d : List ℕ) (es : List (Path × Record)) → T (is_sorted path_cmp es) → is_rising (map (λ e. e.0.name) (filter (lies_in d) es)) ≡ true
rising_names d [] s = refl
rising_names d (e ∷ es) s =
    elim (lies_in d e) as (λ t. lies_in d e ≡ t → is_rising (map (λ e. e.0.name) (cond t (e ∷ filter (lies_in d) es) (filter (lies_in d) es))) ≡ true) [
      | true ↦ λ t. and_from _ _ (below_names d e.0 (same_text d e.0.dataset (sym t)) es (first_T _ _ s)) (rising_names d es (second_T _ _ s))
      | false ↦ λ t. rising_names d es (second_T _ _ s)
    ] refl

pub names_rise : (records : Stored) (dataset : List ℕ) → is_rising (names_in records dataset) ≡ true
names_rise records dataset = rising_names dataset (stored.entries records) (stored.entries_sorted records)

pub all_names_rise : {A : Type 0} (name : A → List ℕ) (records : Stored) (members : List A) → all_rising (map (λ d. names_in records (name d)) members) ≡ true
all_names_rise name records [] = refl
all_names_rise name records (d ∷ members) = and_from _ _ (names_rise records (name d)) (all_names_rise name records members)

mapped : {A : Type 0} (name : A → List ℕ) (records : Stored) (members : List A) → map (λ d. names_in records (name d)) members ≡ map (names_in records) (map name members)
mapped name records [] = refl
mapped name records (d ∷ members) = ap (λ rest. names_in records (name d) ∷ rest) (mapped name records members)

-- when all members have been taken
pub all_taken : {A : Type 0} (name : A → List ℕ) (records : Stored) (members : List A) (i : ℕ) → i ≡ length members → map (λ d. names_in records (name d)) (take i members) ≡ map (names_in records) (map name members)
all_taken name records members i e =
    ap (λ k. map (λ d. names_in records (name d)) (take k members)) e
    ∙ (ap (map (λ d. names_in records (name d))) (take-length members) ∙ mapped name records members)
