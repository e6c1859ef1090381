-- Which names there are along a chain.
use Rattle.std.proofs.Common.{◌≡◌, ℕ, true, false, cond, T, ◌&&◌, ◌||◌, List, [], ◌∷◌, map, refl, sym, ap, ◌∙◌}
use Rattle.std.specs.Prelude.{filter, is_some}
use Rattle.std.specs.FinMap as names
use Rattle.std.specs.FinMap.{is_sorted}
use Rattle.std.specs.FinMap.Entries.{below_all}
use Rattle.std.specs.List.{list_any}
use Rattle.std.specs.Ordering.{eq_by_cmp}
use Rattle.std.specs.Cmp.Lexicographic.{texts_ties}
use Rattle.std.proofs.lemmas.List.Folds.{list_any-append}
use Rattle.std.proofs.lemmas.Bool.{and_from}
use Rattle.acap_entries.specs.Orders.{octets_cmp, octets_eq}
use Rattle.acap_entries.specs.Store.{Stored, path_cmp}
use Rattle.acap_entries.specs.declared.path.Path.{Path}
use Rattle.acap_entries.specs.declared.record.Record.{Record}
use Rattle.acap_ordmap.proofs.Logic.{is_eq-then, first_T, second_T, true_from_T}
use Rattle.acap_inherit.specs.EntryNames.{names_in, set_of, union_of, names_on}
use Rattle.acap_inherit.specs.Merging.{is_below, is_rising}
use Rattle.acap_inherit.specs.Records.{record_at}
use Rattle.acap_inherit.specs.Laws.{NamesLaw}
use Rattle.acap_inherit.proofs.MergeLemmas.{is_name, all_of, in_set, same_sets}

-- ---- a name is listed in a dataset exactly where there is a record

abbrev path_at : List ℕ → List ℕ → Path
path_at dataset name = record { dataset = dataset; name = name }

any_filtered : (q d : List ℕ) (es : List (Path × Record)) → list_any (is_name q) (map (λ (e : Path × Record). e.0.name) (filter (λ e. octets_eq d e.0.dataset) es)) ≡ list_any (eq_by_cmp path_cmp (path_at d q)) (map (λ (e : Path × Record). e.0) es)
any_filtered q d [] = refl
any_filtered q d (e ∷ es) =
    let others : List (Path × Record) = filter (λ e. octets_eq d e.0.dataset) es in
    let behind = list_any (eq_by_cmp path_cmp (path_at d q)) (map (λ (e : Path × Record). e.0) es) in
    ap (λ b. list_any (is_name q) (map (λ (e : Path × Record). e.0.name) (cond b (e ∷ others) others))) (texts_ties d e.0.dataset)
    ∙ (elim (eq_by_cmp octets_cmp d e.0.dataset) as (λ b. list_any (is_name q) (map (λ (e : Path × Record). e.0.name) (cond b (e ∷ others) others)) ≡ (b && is_name q e.0.name || behind)) [
      | true ↦ ap (λ b. is_name q e.0.name || b) (any_filtered q d es)
      | false ↦ any_filtered q d es
    ]
    ∙ ap (λ b. b || behind) (sym (is_eq-then (octets_cmp d e.0.dataset) (octets_cmp q e.0.name))))

pub listed : (records : Stored) (q d : List ℕ) → list_any (is_name q) (names_in records d) ≡ is_some (record_at records d q)
listed records q d = any_filtered q d (names.entries records) ∙ sym (names.contains_key-keys records (path_at d q))

listed_on : (records : Stored) (q : List ℕ) (chain : List (List ℕ)) → list_any (is_name q) (all_of (map (names_in records) chain)) ≡ list_any (λ d. is_some (record_at records d q)) chain
listed_on records q [] = refl
listed_on records q (d ∷ chain) =
    list_any-append (is_name q) (names_in records d) (all_of (map (names_in records) chain))
    ∙ (λ i. listed records q d i || listed_on records q chain i)

-- two chains, of one store or of two, with records of the same names
pub same_names_on : (old new : Stored) (a b : List (List ℕ)) → ((q : List ℕ) → list_any (λ d. is_some (record_at old d q)) a ≡ list_any (λ d. is_some (record_at new d q)) b) → names_on old a ≡ names_on new b
unfolding union_of
same_names_on old new a b h =
    ap (λ s. names.keys s) (same_sets (all_of (map (names_in old) a)) (all_of (map (names_in new) b)) (λ q. listed_on old q a ∙ (h q ∙ sym (listed_on new q b))))

-- ---- the names of a set rise

below_keys : (x : List ℕ) (es : List (List ℕ × Unit {0})) → T (below_all octets_cmp x es) → is_below x (map (λ e. e.0) es) ≡ true
below_keys x [] h = refl
below_keys x (e ∷ es) h = and_from _ _ (true_from_T _ (first_T _ _ h)) (below_keys x es (second_T _ _ h))

rising_keys : (es : List (List ℕ × Unit {0})) → T (is_sorted octets_cmp es) → is_rising (map (λ e. e.0) es) ≡ true
rising_keys [] h = refl
rising_keys (e ∷ es) h = and_from _ _ (below_keys e.0 es (first_T _ _ h)) (rising_keys es (second_T _ _ h))

names_of : (records : Stored) (chain : List (List ℕ)) (q : List ℕ) → list_any (octets_eq q) (names_on records chain) ≡ list_any (λ d. is_some (record_at records d q)) chain
unfolding union_of
names_of records chain q =
    let all = all_of (map (names_in records) chain) in
    (λ i. list_any (λ x. texts_ties q x i) (names.keys (set_of all)))
    ∙ (sym (names.contains_key-keys (set_of all) q) ∙ (in_set all q ∙ listed_on records q chain))

rising_on : (records : Stored) (chain : List (List ℕ)) → is_rising (names_on records chain) ≡ true
unfolding union_of
rising_on records chain =
    let s = set_of (all_of (map (names_in records) chain)) in rising_keys (names.entries s) (names.entries_sorted s)

pub names_law : NamesLaw
names_law = record { names = names_of; rising = rising_on }
