-- Touched paths dataset by dataset.
use Rattle.std.proofs.Common.{◌≡◌, ℕ, Bool, true, false, cond, T, ◌&&◌, ◌||◌, List, [], ◌∷◌, map as each, refl, sym, ap, subst, ◌∙◌}
use Rattle.std.specs.Prelude.{filter}
use Rattle.std.specs.FinMap as map
use Rattle.std.specs.FinMap.{IsAntisymmetric, is_sorted}
use Rattle.std.specs.FinMap.Entries.{where_key, is_sorted-where_key}
use Rattle.std.specs.List.{list_any, flat_map}
use Rattle.std.specs.declared.cmp.Ordering.{Ordering}
use Rattle.std.specs.Ordering.{eq_by_cmp, is_eq}
use Rattle.std.specs.Cmp.{IsTotalOrder, tied_itself, first_so, second_so}
use Rattle.std.specs.Cmp.Lexicographic.{nat_list_cmp_total}
use Rattle.std.proofs.lemmas.List.Folds.{list_any-append}
use Rattle.std.proofs.Math.Bool.{or-false}
use Rattle.std.proofs.lemmas.Bool.{or_left, or_right, and_from}
use Rattle.acap_entries.specs.Changes.{IsStoreAfter}
use Rattle.acap_entries.specs.Datasets.{dataset_exists}
use Rattle.acap_entries.specs.Orders.{octets_cmp, octets_eq}
use Rattle.acap_ordmap.specs.Ranks.{units, Ascending}
use Rattle.acap_entries.specs.Store.{Store, Stored, Written, IsPathByPath, path_cmp}
use Rattle.acap_entries.specs.declared.change.Change.{Change}
use Rattle.acap_entries.specs.declared.path.Path.{Path}
use Rattle.acap_ordmap.proofs.RankLemmas.{order_of_units, units_in_order}
use Rattle.acap_entries.proofs.StoreLemmas.{octets_same, path_same, path_cmp_total}
use Rattle.acap_ordmap.proofs.Logic.{false_and, true_from_T, same_from_both, Equal_from_is_eq}
use Rattle.acap_inherit.specs.Chains.{chain_of}
use Rattle.acap_inherit.specs.Index.{IsIndexOf}
use Rattle.acap_inherit.specs.Touched.{is_written, is_written_on, is_touched, by_octets, octets_total, in_order, touched_paths, datasets_touched, touched_at}
use Rattle.acap_inherit.specs.Touching.{changes, datasets_reached, path_at, paths_in}
use Rattle.acap_inherit.specs.declared.link.Link.{Link}
use Rattle.acap_inherit.proofs.FoundLemmas.{any_among, is_in, wrote, reached_datasets, wrote_at, in_dataset, touched_reached, name_turned}
use Rattle.acap_inherit.proofs.MergeLemmas.{is_name}
use Rattle.acap_inherit.proofs.TouchedLemmas.{is_path, same_paths, any_weaker, any_order, order_rises, same_list, any_touched, touched_rises, absorbed}
use Rattle.acap_inherit.proofs.WrittenLemmas.{paths_of, changes_at}

-- ---- parts of lists in an order

module _ {K : Type 0} (R : K → K → Ordering) (o : IsTotalOrder R) (same : IsAntisymmetric R) where
  units_kept : (p : K → Bool) (xs : List K) → where_key R p (units xs) ≡ units (filter p xs)
  units_kept p [] = refl
  units_kept p (x ∷ xs) = elim (p x) as (λ b. cond b ((x, tt) ∷ where_key R p (units xs)) (where_key R p (units xs)) ≡ units (cond b (x ∷ filter p xs) (filter p xs))) [
    | true ↦ ap (λ rest. (x, tt) ∷ rest) (units_kept p xs)
    | false ↦ units_kept p xs
  ]

  pub kept_rises : (p : K → Bool) (xs : List K) → Ascending R xs → Ascending R (filter p xs)
  kept_rises p xs a =
      units_in_order R o (filter p xs) (ap (is_sorted R) (sym (units_kept p xs)) ∙ true_from_T _ (is_sorted-where_key R p (units xs) (subst T (sym (order_of_units R o xs a)) tt)))

  pub any_part : (f : K → Bool) (q : K) (xs : List K) → list_any (eq_by_cmp R q) (filter f xs) ≡ (list_any (eq_by_cmp R q) xs && f q)
  any_part f q [] = refl
  any_part f q (x ∷ xs) =
      let rest = filter f xs in
      elim (eq_by_cmp R q x) as (λ t. eq_by_cmp R q x ≡ t → list_any (eq_by_cmp R q) (cond (f x) (x ∷ rest) rest) ≡ ((t || list_any (eq_by_cmp R q) xs) && f q)) [
        | true ↦ λ e.
            ap (λ y. list_any (eq_by_cmp R q) (cond (f y) (x ∷ rest) rest)) (sym (same q x (Equal_from_is_eq _ e)))
            ∙ elim (f q) as (λ b. f q ≡ b → list_any (eq_by_cmp R q) (cond b (x ∷ rest) rest) ≡ b) [
              | true ↦ λ _. or_left _ _ e
              | false ↦ λ n. any_part f q xs ∙ (ap (λ b. list_any (eq_by_cmp R q) xs && b) n ∙ sym (false_and (list_any (eq_by_cmp R q) xs)))
            ] refl
        | false ↦ λ e. elim (f x) as (λ b. list_any (eq_by_cmp R q) (cond b (x ∷ rest) rest) ≡ (list_any (eq_by_cmp R q) xs && f q)) [
          | true ↦ ap (λ b. b || list_any (eq_by_cmp R q) rest) e ∙ any_part f q xs
          | false ↦ any_part f q xs
        ]
      ] refl

  -- what passes a test is there
  pub any_member : (p : K → Bool) (xs : List K) → list_any p xs ≡ true → (x : K) × (p x ≡ true) × (list_any (eq_by_cmp R x) xs ≡ true)
  any_member p [] e = cc
  any_member p (x ∷ xs) e =
      elim (p x) as (λ b. p x ≡ b → (b || list_any p xs) ≡ true → (z : K) × (p z ≡ true) × (list_any (eq_by_cmp R z) (x ∷ xs) ≡ true)) [
        | true ↦ λ is _. (x, is, or_left _ _ (ap is_eq (tied_itself o x)))
        | false ↦ λ _ e. let z = any_member p xs e in (z.0, z.1, or_right _ _ z.2)
      ] refl e

-- ---- the paths of one dataset

pub swapped : (a b : Bool) → (a && b) ≡ (b && a)
swapped true true = refl
swapped true false = refl
swapped false true = refl
swapped false false = refl

part_at : (written : Written) (old new : Stored) → IsPathByPath written old new → (d : List ℕ) → in_order (paths_in written old new d) ≡ touched_at written old new d
part_at written old new h d =
    same_list by_octets octets_total same_paths (in_order (paths_in written old new d)) (touched_at written old new d) (order_rises (paths_in written old new d))
    (kept_rises by_octets octets_total same_paths (λ p. octets_eq d p.dataset) (touched_paths written old new) (touched_rises written old new))
    (λ p.
    any_order p (paths_in written old new d)
    ∙ (in_dataset written old new h p d
    ∙ (swapped (is_name p.dataset d) (is_touched written old new p)
    ∙ sym (any_part by_octets octets_total same_paths (λ p. octets_eq d p.dataset) p (touched_paths written old new)
    ∙ (λ i. any_touched written old new h p i && name_turned p.dataset d i)))))

pub found_at : (change : Change) (old new : Store) (left : Stored) (d : List ℕ) (paths : List Path) → IsStoreAfter change old new → left ≡ new.records
    → paths ≡ in_order (paths_in change.writes old.records left d) → paths ≡ touched_at change.writes old.records new.records d
found_at change old new left d paths h same e =
    e ∙ (ap (λ records. in_order (paths_in change.writes old.records records d)) same ∙ part_at change.writes old.records new.records h.paths d)

-- ---- the datasets

pub any_each : {A : Type 0} (q : List ℕ → Bool) (f : A → List ℕ) (xs : List A) → list_any q (each f xs) ≡ list_any (λ x. q (f x)) xs
any_each q f [] = refl
any_each q f (x ∷ xs) = ap (λ b. q (f x) || b) (any_each q f xs)

-- a written dataset has a written name
name_written : (written : Written) (old : Stored) (m : List ℕ) → wrote written old m ≡ true → (n : List ℕ) × (is_written written old m n ≡ true)
name_written written old m e =
    let p = any_member path_cmp path_cmp_total path_same (λ (p : Path). is_name m p.dataset) (paths_of (filter (changes old) (map.entries written))) (sym (wrote_at written old m) ∙ e) in
    let same = octets_same m p.0.dataset (Equal_from_is_eq _ p.1) in
    (p.0.name, ap (λ d. is_written written old d p.0.name) same ∙ (sym (changes_at written old p.0) ∙ p.2))

name_along : (written : Written) (old : Stored) (chain : List (List ℕ)) → list_any (wrote written old) chain ≡ true → (n : List ℕ) × (is_written_on written old chain n ≡ true)
name_along written old [] e = cc
name_along written old (m ∷ chain) e =
    elim (wrote written old m) as (λ b. wrote written old m ≡ b → (b || list_any (wrote written old) chain) ≡ true → (n : List ℕ) × (is_written_on written old (m ∷ chain) n ≡ true)) [
      | true ↦ λ w _. let n = name_written written old m w in (n.0, or_left _ _ n.1)
      | false ↦ λ _ e. let n = name_along written old chain e in (n.0, or_right _ _ n.1)
    ] refl e

touched_somewhere : (written : Written) (old new : Stored) (d n : List ℕ) → dataset_exists new d ≡ true → is_written_on written old (chain_of old d false) n ≡ true → is_touched written old new (path_at d n) ≡ true
unfolding is_touched
touched_somewhere written old new d n e w = and_from _ _ e (or_left _ _ (or_left _ _ w))

touched_exists : (written : Written) (old new : Stored) (p : Path) → is_touched written old new p ≡ true → dataset_exists new p.dataset ≡ true
unfolding is_touched
touched_exists written old new p e = first_so _ _ e

pub touched_dataset_in : (written : Written) (old new : Stored) (links : List Link) → IsPathByPath written old new → IsIndexOf old links → (d : List ℕ)
    → list_any (λ (p : Path). is_name d p.dataset) (touched_paths written old new) ≡ (is_in d (datasets_reached written old links) && dataset_exists new d)
touched_dataset_in written old new links h index d =
    same_from_both _ _
    (λ e.
    let p = any_member by_octets octets_total same_paths (λ (p : Path). is_name d p.dataset) (touched_paths written old new) e in
    let is : is_touched written old new p.0 ≡ true = sym (any_touched written old new h p.0) ∙ p.2 in
    let same = octets_same d p.0.dataset (Equal_from_is_eq _ p.1) in
    ap (λ k. is_in k (datasets_reached written old links) && dataset_exists new k) same
    ∙ and_from _ _ (touched_reached written old new links h index p.0 is) (touched_exists written old new p.0 is))
    (λ e.
    let n = name_along written old (chain_of old d false) (sym (reached_datasets written old links index d) ∙ first_so _ _ e) in
    let is = touched_somewhere written old new d n.0 (second_so _ _ e) n.1 in
    any_weaker (is_path (path_at d n.0)) (λ (p : Path). is_name d p.dataset) (λ p t. ap (λ (q : Path). is_name d q.dataset) (sym (same_paths (path_at d n.0) p (Equal_from_is_eq _ t))) ∙ ap is_eq (tied_itself nat_list_cmp_total d))
    (touched_paths written old new) (any_touched written old new h (path_at d n.0) ∙ is))

-- ---- all datasets together

either_same : (a b c : Bool) → ((c && a) || (b && c)) ≡ ((a || b) && c)
either_same true true true = refl
either_same true true false = refl
either_same true false true = refl
either_same true false false = refl
either_same false true true = refl
either_same false true false = refl
either_same false false true = refl
either_same false false false = refl

in_parts : (written : Written) (old new : Stored) (p : Path) (ds : List (List ℕ)) → list_any (is_path p) (flat_map (touched_at written old new) ds) ≡ (is_in p.dataset ds && list_any (is_path p) (touched_paths written old new))
in_parts written old new p [] = refl
in_parts written old new p (d ∷ ds) =
    list_any-append (is_path p) (touched_at written old new d) (flat_map (touched_at written old new) ds)
    ∙ ((λ i. (any_part by_octets octets_total same_paths (λ p. octets_eq d p.dataset) p (touched_paths written old new) ∙ ap (λ b. list_any (is_path p) (touched_paths written old new) && b) (name_turned p.dataset d)) i || in_parts written old new p ds i)
    ∙ either_same (is_name p.dataset d) (is_in p.dataset ds) (list_any (is_path p) (touched_paths written old new)))

dataset_of_path : (written : Written) (old new : Stored) (p : Path) → list_any (is_path p) (touched_paths written old new) ≡ true → is_in p.dataset (datasets_touched written old new) ≡ true
dataset_of_path written old new p e =
    any_among octets_cmp nat_list_cmp_total p.dataset (each (λ (q : Path). q.dataset) (touched_paths written old new)) []
    ∙ (or-false _ ∙ (any_each (is_name p.dataset) (λ (q : Path). q.dataset) (touched_paths written old new)
    ∙ any_weaker (is_path p) (λ (q : Path). is_name p.dataset q.dataset) (λ q t. ap (λ (r : Path). is_name p.dataset r.dataset) (sym (same_paths p q (Equal_from_is_eq _ t))) ∙ ap is_eq (tied_itself nat_list_cmp_total p.dataset)) (touched_paths written old new) e))

pub together : (written : Written) (old new : Stored) → in_order (flat_map (touched_at written old new) (datasets_touched written old new)) ≡ touched_paths written old new
together written old new =
    let parts = flat_map (touched_at written old new) (datasets_touched written old new) in
    same_list by_octets octets_total same_paths (in_order parts) (touched_paths written old new) (order_rises parts) (touched_rises written old new)
    (λ p. any_order p parts ∙ (in_parts written old new p (datasets_touched written old new) ∙ absorbed (is_in p.dataset (datasets_touched written old new)) (list_any (is_path p) (touched_paths written old new)) (dataset_of_path written old new p)))
