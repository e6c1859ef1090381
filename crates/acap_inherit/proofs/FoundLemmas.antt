-- The paths that are found by the index are the touched ones.
use Rattle.std.proofs.Common.{◌≡◌, ℕ, zero, suc, Bool, true, false, cond, ◌&&◌, ◌||◌, List, [], ◌∷◌, ◌++◌, map as each, Option, Some, None, refl, sym, ap, ◌∙◌}
use Rattle.std.specs.Prelude.{is_some, if◌then◌else◌, filter}
use Rattle.std.specs.FinMap as map
use Rattle.std.specs.List.{list_any, flat_map}
use Rattle.std.specs.declared.cmp.Ordering.{Ordering}
use Rattle.std.specs.Ordering.{eq_by_cmp}
use Rattle.std.specs.Cmp.{IsTotalOrder, eq_by_cmp_equiv, first_so, second_so}
use Rattle.std.specs.Cmp.Lexicographic.{nat_list_cmp_total, same_text, texts_ties}
use Rattle.std.proofs.lemmas.List.Folds.{list_any-append}
use Rattle.std.proofs.Math.Bool.{or-false, and-true}
use Rattle.acap_entries.specs.Changes.{IsStoreAfter}
use Rattle.acap_entries.specs.Datasets.{dataset_exists}
use Rattle.acap_entries.specs.Orders.{octets_cmp, octets_eq}
use Rattle.acap_entries.specs.Store.{Store, Stored, Written, IsPathByPath, path_cmp}
use Rattle.acap_entries.specs.declared.change.Change.{Change}
use Rattle.acap_entries.specs.declared.change.RecordEdit.{RecordEdit}
use Rattle.acap_entries.specs.declared.path.Path.{Path}
use Rattle.acap_ordmap.proofs.Logic.{false_back, or_regrouped, or_crossed, and_either, either_and, false_and, is_eq-then}
use Rattle.acap_inherit.specs.Chains.{base_at, onward, chain_within, chain_of}
use Rattle.acap_inherit.specs.EntryNames.{names_in}
use Rattle.acap_inherit.specs.Index.{is_linked, is_base, IsIndexOf, heirs_in}
use Rattle.acap_inherit.specs.Records.{record_at}
use Rattle.acap_inherit.specs.Touched.{is_written, is_written_on, has_record_on, is_reached, is_touched, ordered_among, in_order, touched_paths}
use Rattle.acap_inherit.specs.Touching.{changes, datasets_each, datasets_written, with_heirs, datasets_reached, path_at, path_written, paths_written, paths_stored, paths_of_member, paths_along, paths_below, paths_in, paths_found}
use Rattle.acap_inherit.specs.declared.link.Link.{Link}
use Rattle.acap_inherit.proofs.IndexLemmas.{any_with, base_kept}
use Rattle.acap_inherit.proofs.MergeLemmas.{is_name}
use Rattle.acap_inherit.proofs.NamesLaws.{listed}
use Rattle.acap_inherit.proofs.TouchedLemmas.{is_path, by_parts, any_weaker, absorbed, any_order, order_rises, touched_is}
use Rattle.acap_inherit.proofs.UnreadLaws.{unwritten, unwritten_on, same_chain}
use Rattle.acap_inherit.proofs.WrittenLemmas.{paths_of, changes_at}

-- ---- tests

shuffled : (l a r : Bool) → ((l || a) || r) ≡ (a || (l || r))
shuffled true true r = refl
shuffled true false r = refl
shuffled false a r = refl

ends_or : (a b : Bool) → (a || b) ≡ (b || (a || false))
ends_or true true = refl
ends_or true false = refl
ends_or false true = refl
ends_or false false = refl

unless_not : (a b : Bool) → (a ≡ false → b ≡ false) → b ≡ true → a ≡ true
unless_not true b h e = refl
unless_not false b h e = sym (h refl) ∙ e

twice_or : (w : Bool) → w ≡ ((w || false) || (w || false))
twice_or true = refl
twice_or false = refl

-- ---- the datasets

pub any_among : {K : Type 0} (R : K → K → Ordering) (o : IsTotalOrder R) (q : K) (xs acc : List K) → list_any (eq_by_cmp R q) (ordered_among R xs acc) ≡ (list_any (eq_by_cmp R q) xs || list_any (eq_by_cmp R q) acc)
any_among R o q [] acc = refl
any_among R o q (x ∷ xs) acc =
    any_with R o q x (ordered_among R xs acc)
    ∙ (ap (λ b. eq_by_cmp R q x || b) (any_among R o q xs acc) ∙ or_regrouped (eq_by_cmp R q x) (list_any (eq_by_cmp R q) xs) (list_any (eq_by_cmp R q) acc))

-- whether a dataset is among some
abbrev pub is_in : List ℕ → List (List ℕ) → Bool
is_in d ds = list_any (is_name d) ds

-- whether the base of a dataset is
abbrev based_in : Option (List ℕ) → List (List ℕ) → Bool
based_in None ds = false
based_in (Some base) ds = is_in base ds

pub name_turned : (a b : List ℕ) → octets_eq b a ≡ is_name a b
name_turned a b = texts_ties b a ∙ (eq_by_cmp_equiv nat_list_cmp_total).symm b a

based_one : (found : Option (List ℕ)) (ds : List (List ℕ)) → list_any (λ b. is_base found b) ds ≡ based_in found ds
based_one None [] = refl
based_one None (d ∷ ds) = based_one None ds
based_one (Some base) [] = refl
based_one (Some base) (d ∷ ds) = λ i. name_turned base d i || based_one (Some base) ds i

pub any_heirs : (links : List Link) (base heir : List ℕ) → is_in heir (heirs_in links base) ≡ is_linked links base heir
any_heirs [] base heir = refl
any_heirs (l ∷ links) base heir =
    let rest = heirs_in links base in
    let kept = filter (λ (l : Link). octets_eq base l.base) links in
    elim (octets_eq base l.base) as (λ t. octets_eq base l.base ≡ t → is_in heir (each (λ (l : Link). l.heir) (cond t (l ∷ kept) kept)) ≡ ((t && is_name heir l.heir) || is_linked links base heir)) [
      | true ↦ λ _. ap (λ b. is_name heir l.heir || b) (any_heirs links base heir)
      | false ↦ λ _. any_heirs links base heir
    ] refl
    ∙ (ap (λ b. (b && is_name heir l.heir) || is_linked links base heir) (texts_ties base l.base)
    ∙ ap (λ b. b || is_linked links base heir) (sym (is_eq-then (octets_cmp base l.base) (octets_cmp heir l.heir))))

any_level : (records : Stored) (links : List Link) → IsIndexOf records links → (d : List ℕ) (level : List (List ℕ)) → is_in d (flat_map (heirs_in links) level) ≡ list_any (λ b. is_base (base_at records d) b) level
any_level records links index d [] = refl
any_level records links index d (b ∷ level) =
    list_any-append (is_name d) (heirs_in links b) (flat_map (heirs_in links) level)
    ∙ (λ i. (any_heirs links b d ∙ index.each b d) i || any_level records links index d level i)

from_base : (records : Stored) (links : List Link) → IsIndexOf records links → (d : List ℕ) (level : List (List ℕ)) → is_in d (flat_map (heirs_in links) level) ≡ based_in (base_at records d) level
from_base records links index d level = any_level records links index d level ∙ based_one (base_at records d) level

-- along a chain: members whose bases are among some are the members from the base on that are
bases_along : (k : ℕ) (records : Stored) (level : List (List ℕ)) (d : List ℕ) → list_any (λ m. based_in (base_at records m) level) (chain_within k records d) ≡ list_any (λ m. is_in m level) (onward (base_at records d) (chain_within k records))
unfolding chain_within
bases_along zero records level d = elim (base_at records d) as (λ base. false ≡ list_any (λ m. is_in m level) (onward base (chain_within zero records))) [ None ↦ refl | Some base ↦ refl ]
bases_along (suc k) records level d =
    elim (base_at records d) as (λ base. (based_in base level || list_any (λ m. based_in (base_at records m) level) (onward base (chain_within k records))) ≡ list_any (λ m. is_in m level) (onward base (chain_within (suc k) records))) [
      | None ↦ refl
      | Some base ↦ ap (λ b. is_in base level || b) (bases_along k records level base)
    ]

last_one : (records : Stored) (test : List ℕ → Bool) (d : List ℕ) → list_any test (chain_within 1 records d) ≡ (test d || false)
unfolding chain_within
last_one records test d = ap (λ b. test d || b) (elim (base_at records d) as (λ base. list_any test (onward base (chain_within zero records)) ≡ false) [ None ↦ refl | Some base ↦ refl ])

first_one : (k : ℕ) (records : Stored) (test : List ℕ → Bool) (d : List ℕ) → list_any test (chain_within (suc k) records d) ≡ (test d || list_any test (onward (base_at records d) (chain_within k records)))
unfolding chain_within
first_one k records test d = refl

all_levels : (k : ℕ) (records : Stored) (links : List Link) → IsIndexOf records links → (level acc : List (List ℕ)) (d : List ℕ) → is_in d (with_heirs k links level acc) ≡ (is_in d acc || list_any (λ m. is_in m level) (chain_within (suc k) records d))
unfolding with_heirs
all_levels zero records links index level acc d =
    any_among octets_cmp nat_list_cmp_total d level acc
    ∙ (ends_or (is_in d level) (is_in d acc) ∙ ap (λ b. is_in d acc || b) (sym (last_one records (λ m. is_in m level) d)))
all_levels (suc k) records links index level acc d =
    let next = flat_map (heirs_in links) level in
    all_levels k records links index next (ordered_among octets_cmp level acc) d
    ∙ ((λ i. any_among octets_cmp nat_list_cmp_total d level acc i || list_any (λ m. from_base records links index m level i) (chain_within (suc k) records d))
    ∙ (ap (λ b. (is_in d level || is_in d acc) || b) (bases_along (suc k) records level d)
    ∙ (shuffled (is_in d level) (is_in d acc) (list_any (λ m. is_in m level) (onward (base_at records d) (chain_within (suc k) records)))
    ∙ ap (λ b. is_in d acc || b) (sym (first_one (suc k) records (λ m. is_in m level) d)))))

-- whether something is written in a dataset
abbrev pub wrote : Written → Stored → List ℕ → Bool
wrote written old d = is_in d (datasets_written written old)

pub reached_datasets : (written : Written) (old : Stored) (links : List Link) → IsIndexOf old links → (d : List ℕ) → is_in d (datasets_reached written old links) ≡ list_any (wrote written old) (chain_of old d false)
reached_datasets written old links index d = all_levels 7 old links index (datasets_written written old) [] d

keys_of_datasets : (d : List ℕ) (ps : List Path) (es : List (Path × RecordEdit)) → each (λ (e : Path × RecordEdit). e.0) es ≡ ps → is_in d (each (λ (e : Path × RecordEdit). e.0.dataset) es) ≡ list_any (λ (p : Path). is_name d p.dataset) ps
keys_of_datasets d ps [] e = ap (list_any (λ (p : Path). is_name d p.dataset)) e
keys_of_datasets d ps (w ∷ es) e = ap (λ b. is_name d w.0.dataset || b) (keys_of_datasets d (each (λ (e : Path × RecordEdit). e.0) es) es refl) ∙ ap (list_any (λ (p : Path). is_name d p.dataset)) e

-- the datasets of the writes that put or remove a record
pub wrote_at : (written : Written) (old : Stored) (m : List ℕ) → wrote written old m ≡ list_any (λ (p : Path). is_name m p.dataset) (paths_of (filter (changes old) (map.entries written)))
wrote_at written old m =
    any_among octets_cmp nat_list_cmp_total m (datasets_each written old) []
    ∙ (or-false (is_in m (datasets_each written old))
    ∙ keys_of_datasets m (paths_of (filter (changes old) (map.entries written))) (filter (changes old) (map.entries written)) refl)

writes_in : (written : Written) (old : Stored) (m n : List ℕ) → is_written written old m n ≡ true → wrote written old m ≡ true
writes_in written old m n e =
    wrote_at written old m
    ∙ any_weaker (eq_by_cmp path_cmp (path_at m n)) (λ (p : Path). is_name m p.dataset) (λ p t. first_so (is_name m p.dataset) (is_name n p.name) (sym (is_eq-then (octets_cmp m p.dataset) (octets_cmp n p.name)) ∙ t)) (paths_of (filter (changes old) (map.entries written))) (changes_at written old (path_at m n) ∙ e)

-- ---- chains before and after

-- what is written along the new chain stands beyond a written dataset of the old one
wrote_before : (k : ℕ) (written : Written) (old new : Stored) → IsPathByPath written old new → (d : List ℕ) → list_any (wrote written old) (chain_within k new d) ≡ true → list_any (wrote written old) (chain_within k old d) ≡ true
unfolding chain_within
wrote_before zero written old new h d e = e
wrote_before (suc k) written old new h d e =
    elim (wrote written old d) as (λ b. wrote written old d ≡ b → (b || list_any (wrote written old) (onward (base_at new d) (chain_within k new))) ≡ true → (b || list_any (wrote written old) (onward (base_at old d) (chain_within k old))) ≡ true) [
      | true ↦ λ _ _. refl
      | false ↦ λ none e.
          let kept : base_at old d ≡ base_at new d = base_kept written old new h d (false_back (is_written written old d []) (wrote written old d) (writes_in written old d []) none) in
          ap (λ base. list_any (wrote written old) (onward base (chain_within k old))) kept
          ∙ elim (base_at new d) as (λ base. list_any (wrote written old) (onward base (chain_within k new)) ≡ true → list_any (wrote written old) (onward base (chain_within k old)) ≡ true) [
            | None ↦ λ e. e
            | Some base ↦ λ e. wrote_before k written old new h base e
          ] e
    ] refl e

reach_wrote : (written : Written) (old records : Stored) (chain : List (List ℕ)) (name : List ℕ) → is_reached written old records chain name ≡ true → list_any (wrote written old) chain ≡ true
reach_wrote written old records chain name e =
    elim (is_written_on written old chain name) as (λ b. is_written_on written old chain name ≡ b → (b || (is_written_on written old chain [] && has_record_on records chain name)) ≡ true → list_any (wrote written old) chain ≡ true) [
      | true ↦ λ w _. any_weaker (λ m. is_written written old m name) (wrote written old) (λ m is. writes_in written old m name is) chain w
      | false ↦ λ _ e. any_weaker (λ m. is_written written old m []) (wrote written old) (λ m is. writes_in written old m [] is) chain (first_so _ _ e)
    ] refl e

-- where management entries of the old chain are written, those of the new one are, and the other way round
managed_alike : (written : Written) (old new : Stored) → IsPathByPath written old new → (d : List ℕ) → is_written_on written old (chain_of old d false) [] ≡ false
    → (chain_of old d false ≡ chain_of new d false)
managed_alike written old new h d e = same_chain old new d (unwritten_on written old new h (chain_of old d false) [] e)

managed_back : (written : Written) (old new : Stored) → IsPathByPath written old new → (d : List ℕ) → is_written_on written old (chain_of new d false) [] ≡ false → is_written_on written old (chain_of old d false) [] ≡ false
managed_back written old new h d e =
    let kept = unwritten_on written old new h (chain_of new d false) [] e in
    let same = same_chain new old d (λ m k. sym (kept m k)) in
    ap (λ chain. is_written_on written old chain []) (sym same) ∙ e

-- ---- the paths of one dataset

abbrev in_paths : Path → List Path → Bool
in_paths p ps = list_any (is_path p) ps

by_names : (p : Path) (d n : List ℕ) → is_path p (path_at d n) ≡ (is_name p.dataset d && is_name p.name n)
by_names p d n = by_parts p (path_at d n) ∙ (λ i. texts_ties p.dataset d i && texts_ties p.name n i)

written_one : (old : Stored) (p : Path) (d m : List ℕ) (w : Path × RecordEdit) → in_paths p (path_written old d m w) ≡ (is_name p.dataset d && (eq_by_cmp path_cmp (path_at m p.name) w.0 && changes old w))
written_one old p d m w =
    ap (λ b. in_paths p (if b && changes old w then path_at d w.0.name ∷ [] else [])) (texts_ties m w.0.dataset)
    ∙ (elim (is_name m w.0.dataset) as (λ b. in_paths p (if b && changes old w then path_at d w.0.name ∷ [] else []) ≡ (is_name p.dataset d && ((b && is_name p.name w.0.name) && changes old w))) [
      | true ↦ elim (changes old w) as (λ c. in_paths p (if c then path_at d w.0.name ∷ [] else []) ≡ (is_name p.dataset d && (is_name p.name w.0.name && c))) [
        | true ↦ or-false _ ∙ (by_names p d w.0.name ∙ ap (λ b. is_name p.dataset d && b) (sym (and-true (is_name p.name w.0.name))))
        | false ↦ false_and (is_name p.dataset d) ∙ ap (λ b. is_name p.dataset d && b) (false_and (is_name p.name w.0.name))
      ]
      | false ↦ false_and (is_name p.dataset d)
    ]
    ∙ ap (λ b. is_name p.dataset d && (b && changes old w)) (sym (is_eq-then (octets_cmp m w.0.dataset) (octets_cmp p.name w.0.name))))

pub one_kept : (old : Stored) (q : Path → Bool) (w : Path × RecordEdit) (es : List (Path × RecordEdit)) → ((q w.0 && changes old w) || list_any q (paths_of (filter (changes old) es))) ≡ list_any q (paths_of (filter (changes old) (w ∷ es)))
one_kept old q w es =
    let others = filter (changes old) es in
    elim (changes old w) as (λ c. ((q w.0 && c) || list_any q (paths_of others)) ≡ list_any q (paths_of (cond c (w ∷ others) others))) [
      | true ↦ ap (λ b. b || list_any q (paths_of others)) (and-true (q w.0))
      | false ↦ ap (λ b. b || list_any q (paths_of others)) (sym (false_and (q w.0)))
    ]

written_all : (old : Stored) (p : Path) (d m : List ℕ) (es : List (Path × RecordEdit)) → in_paths p (flat_map (path_written old d m) es) ≡ (is_name p.dataset d && list_any (eq_by_cmp path_cmp (path_at m p.name)) (paths_of (filter (changes old) es)))
written_all old p d m [] = false_and (is_name p.dataset d)
written_all old p d m (w ∷ es) =
    let is = eq_by_cmp path_cmp (path_at m p.name) in
    list_any-append (is_path p) (path_written old d m w) (flat_map (path_written old d m) es)
    ∙ ((λ i. written_one old p d m w i || written_all old p d m es i)
    ∙ (and_either (is_name p.dataset d) (is w.0 && changes old w) (list_any is (paths_of (filter (changes old) es)))
    ∙ ap (λ b. is_name p.dataset d && b) (one_kept old is w es)))

in_written : (written : Written) (old : Stored) (p : Path) (d m : List ℕ) → in_paths p (paths_written written old d m) ≡ (is_name p.dataset d && is_written written old m p.name)
in_written written old p d m =
    written_all old p d m (map.entries written) ∙ ap (λ b. is_name p.dataset d && b) (changes_at written old (path_at m p.name))

named_paths : (p : Path) (d : List ℕ) (names : List (List ℕ)) → in_paths p (each (path_at d) names) ≡ (is_name p.dataset d && is_in p.name names)
named_paths p d [] = false_and (is_name p.dataset d)
named_paths p d (n ∷ names) = (λ i. by_names p d n i || named_paths p d names i) ∙ and_either (is_name p.dataset d) (is_name p.name n) (is_in p.name names)

in_stored : (old : Stored) (p : Path) (d m : List ℕ) → in_paths p (paths_stored old d m) ≡ (is_name p.dataset d && is_some (record_at old m p.name))
in_stored old p d m = named_paths p d (names_in old m) ∙ ap (λ b. is_name p.dataset d && b) (listed old p.name m)

in_member : (written : Written) (old : Stored) (all : Bool) (p : Path) (d m : List ℕ) → in_paths p (paths_of_member written old all d m) ≡ (is_name p.dataset d && (is_written written old m p.name || (all && is_some (record_at old m p.name))))
in_member written old all p d m =
    list_any-append (is_path p) (paths_written written old d m) (if all then paths_stored old d m else [])
    ∙ ((λ i. in_written written old p d m i || in_paths p (if all then paths_stored old d m else []))
    ∙ (ap (λ b. (is_name p.dataset d && is_written written old m p.name) || b) (elim all as (λ all. in_paths p (if all then paths_stored old d m else []) ≡ (is_name p.dataset d && (all && is_some (record_at old m p.name)))) [ true ↦ in_stored old p d m | false ↦ false_and (is_name p.dataset d) ])
    ∙ and_either (is_name p.dataset d) (is_written written old m p.name) (all && is_some (record_at old m p.name))))

in_along : (written : Written) (old : Stored) (all : Bool) (p : Path) (d : List ℕ) (chain : List (List ℕ)) → in_paths p (paths_along written old all d chain)
    ≡ (is_name p.dataset d && list_any (λ m. is_written written old m p.name || (all && is_some (record_at old m p.name))) chain)
in_along written old all p d [] = false_and (is_name p.dataset d)
in_along written old all p d (m ∷ chain) =
    list_any-append (is_path p) (paths_of_member written old all d m) (paths_along written old all d chain)
    ∙ ((λ i. in_member written old all p d m i || in_along written old all p d chain i)
    ∙ and_either (is_name p.dataset d) (is_written written old m p.name || (all && is_some (record_at old m p.name))) (list_any (λ m. is_written written old m p.name || (all && is_some (record_at old m p.name))) chain))

any_or : (p q : List ℕ → Bool) (xs : List (List ℕ)) → list_any (λ x. p x || q x) xs ≡ (list_any p xs || list_any q xs)
any_or p q [] = refl
any_or p q (x ∷ xs) = ap (λ b. (p x || q x) || b) (any_or p q xs) ∙ or_crossed (p x) (q x) (list_any p xs) (list_any q xs)

-- a record that isn't written is there afterwards just where it was
same_or : (written : Written) (old new : Stored) → IsPathByPath written old new → (m n : List ℕ) → (is_written written old m n || is_some (record_at old m n)) ≡ (is_written written old m n || is_some (record_at new m n))
same_or written old new h m n =
    elim (is_written written old m n) as (λ b. is_written written old m n ≡ b → (b || is_some (record_at old m n)) ≡ (b || is_some (record_at new m n))) [
      | true ↦ λ _. refl
      | false ↦ λ e. ap is_some (unwritten written old new h m n e)
    ] refl

reach_of : Written → Stored → Stored → List ℕ → List ℕ → Bool
reach_of written old new d n = is_reached written old old (chain_of old d false) n || is_reached written old new (chain_of new d false) n

-- where no management entry is written, the names that are written along the one chain
unmanaged : (written : Written) (old new : Stored) → IsPathByPath written old new → (d n : List ℕ) → is_written_on written old (chain_of old d false) [] ≡ false
    → list_any (λ m. is_written written old m n || (false && is_some (record_at old m n))) (chain_of old d false) ≡ reach_of written old new d n
unfolding reach_of
unmanaged written old new h d n e =
    let w = is_written_on written old (chain_of old d false) n in
    let same = managed_alike written old new h d e in
    (λ i. list_any (λ m. or-false (is_written written old m n) i) (chain_of old d false))
    ∙ (twice_or w
    ∙ sym ((λ i. (w || (e i && has_record_on old (chain_of old d false) n)) || (is_written_on written old (sym same i) n || (is_written_on written old (sym same i) [] && has_record_on new (sym same i) n)))
    ∙ ap (λ b. (w || false) || (w || (b && has_record_on new (chain_of old d false) n))) e))

-- and else all that have a record
all_managed : (written : Written) (old new : Stored) → IsPathByPath written old new → (d n : List ℕ) → is_written_on written old (chain_of old d false) [] ≡ true
    → (list_any (λ m. is_written written old m n || is_some (record_at old m n)) (chain_of old d false) || list_any (λ m. is_written written old m n || is_some (record_at old m n)) (chain_of new d false)) ≡ reach_of written old new d n
unfolding reach_of
all_managed written old new h d n e =
    let after : is_written_on written old (chain_of new d false) [] ≡ true =
    unless_not (is_written_on written old (chain_of new d false) []) (is_written_on written old (chain_of old d false) []) (managed_back written old new h d) e in
    (λ i. any_or (λ m. is_written written old m n) (λ m. is_some (record_at old m n)) (chain_of old d false) i || list_any (λ m. same_or written old new h m n i) (chain_of new d false))
    ∙ (ap (λ b. (is_written_on written old (chain_of old d false) n || has_record_on old (chain_of old d false) n) || b) (any_or (λ m. is_written written old m n) (λ m. is_some (record_at new m n)) (chain_of new d false))
    ∙ sym (λ i. (is_written_on written old (chain_of old d false) n || (e i && has_record_on old (chain_of old d false) n)) || (is_written_on written old (chain_of new d false) n || (after i && has_record_on new (chain_of new d false) n))))

in_below : (written : Written) (old new : Stored) → IsPathByPath written old new → (p : Path) (d : List ℕ) → in_paths p (paths_below written old new d) ≡ (is_name p.dataset d && reach_of written old new d p.name)
in_below written old new h p d =
    elim (is_written_on written old (chain_of old d false) []) as (λ b. is_written_on written old (chain_of old d false) [] ≡ b → in_paths p (if b then paths_along written old true d (chain_of old d false) ++ paths_along written old true d (chain_of new d false) else paths_along written old false d (chain_of old d false)) ≡ (is_name p.dataset d && reach_of written old new d p.name)) [
      | true ↦ λ e.
          list_any-append (is_path p) (paths_along written old true d (chain_of old d false)) (paths_along written old true d (chain_of new d false))
          ∙ ((λ i. in_along written old true p d (chain_of old d false) i || in_along written old true p d (chain_of new d false) i)
          ∙ (and_either (is_name p.dataset d) _ _ ∙ ap (λ b. is_name p.dataset d && b) (all_managed written old new h d p.name e)))
      | false ↦ λ e. in_along written old false p d (chain_of old d false) ∙ ap (λ b. is_name p.dataset d && b) (unmanaged written old new h d p.name e)
    ] refl

pub in_dataset : (written : Written) (old new : Stored) → IsPathByPath written old new → (p : Path) (d : List ℕ) → in_paths p (paths_in written old new d) ≡ (is_name p.dataset d && is_touched written old new p)
unfolding is_touched reach_of
in_dataset written old new h p d =
    elim (dataset_exists new d) as (λ b. in_paths p (if b then paths_below written old new d else []) ≡ (is_name p.dataset d && (b && reach_of written old new d p.name))) [
      | true ↦ in_below written old new h p d
      | false ↦ false_and (is_name p.dataset d)
    ]
    ∙ elim (is_name p.dataset d) as (λ b. is_name p.dataset d ≡ b → (b && (dataset_exists new d && reach_of written old new d p.name)) ≡ (b && (dataset_exists new p.dataset && reach_of written old new p.dataset p.name))) [
      | true ↦ λ e. let same = same_text p.dataset d (sym (texts_ties p.dataset d ∙ e)) in ap (λ k. dataset_exists new k && reach_of written old new k p.name) (sym same)
      | false ↦ λ _. refl
    ] refl

pub in_datasets : (written : Written) (old new : Stored) → IsPathByPath written old new → (p : Path) (ds : List (List ℕ)) → in_paths p (flat_map (paths_in written old new) ds) ≡ (is_in p.dataset ds && is_touched written old new p)
in_datasets written old new h p [] = refl
in_datasets written old new h p (d ∷ ds) =
    list_any-append (is_path p) (paths_in written old new d) (flat_map (paths_in written old new) ds)
    ∙ ((λ i. in_dataset written old new h p d i || in_datasets written old new h p ds i)
    ∙ either_and (is_name p.dataset d) (is_in p.dataset ds) (is_touched written old new p))

-- ---- all of them

pub touched_reached : (written : Written) (old new : Stored) (links : List Link) → IsPathByPath written old new → IsIndexOf old links → (p : Path) → is_touched written old new p ≡ true → is_in p.dataset (datasets_reached written old links) ≡ true
unfolding is_touched
touched_reached written old new links h index p e =
    reached_datasets written old links index p.dataset
    ∙ elim (is_reached written old old (chain_of old p.dataset false) p.name) as (λ b. is_reached written old old (chain_of old p.dataset false) p.name ≡ b → (b || is_reached written old new (chain_of new p.dataset false) p.name) ≡ true → list_any (wrote written old) (chain_of old p.dataset false) ≡ true) [
      | true ↦ λ r _. reach_wrote written old old (chain_of old p.dataset false) p.name r
      | false ↦ λ _ r. wrote_before 8 written old new h p.dataset (reach_wrote written old new (chain_of new p.dataset false) p.name r)
    ] refl (second_so (dataset_exists new p.dataset) _ e)

pub found_touched : (change : Change) (old new : Store) (links : List Link) (left : Stored) (datasets : List (List ℕ)) (paths : List Path) → IsIndexOf old.records links → IsStoreAfter change old new → left ≡ new.records
    → datasets ≡ datasets_reached change.writes old.records links → paths ≡ paths_found change.writes old.records left datasets → paths ≡ touched_paths change.writes old.records new.records
found_touched change old new links left datasets paths index h same d e =
    let found = flat_map (paths_in change.writes old.records new.records) (datasets_reached change.writes old.records links) in
    e
    ∙ ((λ i. paths_found change.writes old.records (same i) (d i))
    ∙ touched_is change.writes old.records new.records h.paths (in_order found) (order_rises found) (λ p.
    any_order p found
    ∙ (in_datasets change.writes old.records new.records h.paths p (datasets_reached change.writes old.records links)
    ∙ absorbed (is_in p.dataset (datasets_reached change.writes old.records links)) (is_touched change.writes old.records new.records p) (touched_reached change.writes old.records new.records links h.paths index p))))
