-- Items in their own order, as the keys of entries.
use Rattle.std.proofs.Common.{◌≡◌, ℕ, zero, suc, ◌+◌, ◌<◌, ◌≤◌, true, false, not, cond, T, IsTrue, List, [], ◌∷◌, ◌++◌, map, length, drop, ◌-◌, Option, Some, refl, sym, ap, subst, ◌∙◌, arith}
use Rattle.std.specs.Option.{option_map}
use Rattle.std.specs.declared.cmp.Ordering.{Ordering}
use Rattle.std.specs.declared.cmp.Ordering.TheVariants.{Less, Equal, Greater}
use Rattle.std.specs.Ordering.{is_lt, ordering_reverse, eq_by_cmp}
use Rattle.std.specs.Cmp.{IsTotalOrder}
use Rattle.std.specs.List.{AllPairs, All, slice_get}
use Rattle.std.specs.FinMap.{put, is_sorted}
use Rattle.std.specs.FinMap.Entries.{by_order, below_all}
use Rattle.std.proofs.lemmas.List.Kept.{AllPairs-cons}
use Rattle.std.proofs.lemmas.List.Elements.{All-cons}
use Rattle.std.proofs.lemmas.List.Sums.{sum_by-cons}
use Rattle.acap_ordmap.specs.Sorted.{place, without, entry_of, put_in, InOrder}
use Rattle.acap_ordmap.specs.Leaves.{contents}
use Rattle.acap_ordmap.specs.Ranks.{units, Ascending, rank_of, item_at, with_item, without_item}
use Rattle.acap_ordmap.proofs.SortedLemmas.{lower, lower_equal, rises_behind}
use Rattle.acap_ordmap.proofs.Logic.{both_T, IsTrue_from_T, first_T, second_T, Less_from_T}

-- the keys of entries
abbrev pub items : {K X : Type 0} → List (K × X) → List K
items es = map (λ e. e.0) es

pub items_units : {K : Type 0} (xs : List K) → items (units xs) ≡ xs
items_units [] = refl
items_units {K} (x ∷ xs) = ap (λ (t : List K). x ∷ t) (items_units xs)

pub items_length : {K X : Type 0} (es : List (K × X)) → length (items es) ≡ length es
items_length [] = refl
items_length (x ∷ es) = ap suc (items_length es)

pub items_get : {K X : Type 0} (es : List (K × X)) (i : ℕ) → option_map (λ (e : K × X). e.0) (slice_get es i) ≡ slice_get (items es) i
items_get [] i = refl
items_get (x ∷ es) zero = refl
items_get (x ∷ es) (suc i) = items_get es i

-- an item after some others, and among some before others
pub slice_past : {A : Type 0} (a b : List A) (n : ℕ) → length a ≤ n → slice_get b (n - length a) ≡ slice_get (a ++ b) n
slice_past {A} [] b n h = ap (λ m. slice_get b m) (omega arith)
slice_past (x ∷ a) b zero h = absurd (omega arith)
slice_past {A} (x ∷ a) b (suc n) h = let less : suc n - suc (length a) ≡ n - length a = omega arith in ap (λ m. slice_get b m) less ∙ slice_past a b n (omega arith)

pub slice_within : {A : Type 0} (a b : List A) (n : ℕ) → n < length a → slice_get a n ≡ slice_get (a ++ b) n
slice_within [] b n h = absurd (omega arith)
slice_within (x ∷ a) b zero h = refl
slice_within (x ∷ a) b (suc n) h = slice_within a b n (omega arith)

pub none_left : {A : Type 0} (ls : List (List A)) (i : ℕ) → length ls ≤ i → contents (drop i ls) ≡ []
none_left [] zero h = refl
none_left [] (suc i) h = refl
none_left (x ∷ ls) zero h = absurd (omega arith)
none_left (x ∷ ls) (suc i) h = none_left ls i (omega arith)

pub rank_none : {K : Type 0} (R : K → K → Ordering) (k : K) → rank_of R k [] ≡ 0
unfolding rank_of
rank_none R k = refl

pub rank_cons : {K : Type 0} (R : K → K → Ordering) (k x : K) (xs : List K) → rank_of R k (x ∷ xs) ≡ cond (is_lt (R x k)) 1 0 + rank_of R k xs
unfolding rank_of
rank_cons R k x xs = sum_by-cons (λ y. cond (is_lt (R y k)) 1 0) x xs

module _ {K X : Type 0} (R : K → K → Ordering) where
  pub put_items : (k : K) (v : X) (es : List (K × X)) → items (put_in R k v es) ≡ with_item R k (items es)
  unfolding put_in with_item
  put_items k v [] = refl
  put_items k v (x ∷ es) = elim (R k x.0) as (λ r. items (by_order r ((k, v) ∷ x ∷ es) ((x.0, v) ∷ es) (x ∷ put R k v es)) ≡ by_order r (k ∷ x.0 ∷ items es) (x.0 ∷ items es) (x.0 ∷ with_item R k (items es))) [
    | Less ↦ refl
    | Equal ↦ refl
    | Greater ↦ ap (λ (t : List K). x.0 ∷ t) (put_items k v es)
  ]

  pub without_items : (k : K) (es : List (K × X)) → items (without R k es) ≡ without_item R k (items es)
  unfolding without without_item
  without_items k [] = refl
  without_items k (x ∷ es) = elim (eq_by_cmp R k x.0) as (λ b. items (cond (not b) (x ∷ without R k es) (without R k es)) ≡ cond (not b) (x.0 ∷ without_item R k (items es)) (without_item R k (items es))) [
    | true ↦ without_items k es
    | false ↦ ap (λ (t : List K). x.0 ∷ t) (without_items k es)
  ]

  pub item_entry : (k : K) (es : List (K × X)) → option_map (λ (e : K × X). e.0) (entry_of R k es) ≡ item_at R k (items es)
  unfolding entry_of item_at
  item_entry k [] = refl
  item_entry k (x ∷ es) = elim (eq_by_cmp R k x.0) as (λ b. option_map (λ (e : K × X). e.0) (cond b (Some x) (entry_of R k es)) ≡ cond b (Some x.0) (item_at R k (items es))) [
    | true ↦ refl
    | false ↦ item_entry k es
  ]

  pub item_of : (k : K) (es : List (K × X)) (e : Option (K × X)) (xs : List K) → e ≡ entry_of R k es → items es ≡ xs → option_map (λ (e : K × X). e.0) e ≡ item_at R k xs
  item_of k es e xs p q = ap (λ (t : Option (K × X)). option_map (λ (e : K × X). e.0) t) p ∙ item_entry k es ∙ ap (λ (t : List K). item_at R k t) q

  pub rank_empty : (k : K) (ls : List (List (K × X))) (xs : List K) → length ls ≡ 0 → items (contents ls) ≡ xs → 0 ≡ rank_of R k xs
  rank_empty k [] xs h e = sym (rank_none R k) ∙ ap (λ (t : List K). rank_of R k t) e
  rank_empty k (l ∷ ls) xs h e = absurd (omega arith)

  -- the keys of entries in order ascend, and the other way round
  all_below : (l : K) (es : List (K × X)) → T (below_all R l es) → All (λ y. R l y ≡ Less) (items es)
  all_below l [] h = λ k d lt. absurd (omega arith)
  all_below l (x ∷ es) h = All-cons (λ y. R l y ≡ Less) x.0 (items es) (Less_from_T _ (first_T _ _ h)) (all_below l es (second_T _ _ h))

  pairs_of : (es : List (K × X)) → T (is_sorted R es) → AllPairs (λ x y. R x y ≡ Less) (items es)
  pairs_of [] h = λ i j d lt within. absurd (omega arith)
  pairs_of (x ∷ es) h = AllPairs-cons (λ x y. R x y ≡ Less) x.0 (items es) (all_below x.0 es (first_T _ _ h)) (pairs_of es (second_T _ _ h))

  pub ascending : (es : List (K × X)) → InOrder R es → Ascending R (items es)
  ascending es h = record { rises = pairs_of es (subst T (sym h.rises) tt) }

  below_from : (l : K) (es : List (K × X)) → All (λ y. R l y ≡ Less) (items es) → T (below_all R l es)
  below_from l [] h = tt
  below_from l (x ∷ es) h = both_T _ _ (subst (λ r. T (is_lt r)) (sym (h zero x.0 (omega arith))) tt) (below_from l es (λ k d lt. h (suc k) d (omega arith)))

  sorted_from : (es : List (K × X)) → AllPairs (λ x y. R x y ≡ Less) (items es) → T (is_sorted R es)
  sorted_from [] h = tt
  sorted_from (x ∷ es) h = both_T _ _ (below_from x.0 es (λ k d lt. h zero (suc k) d (omega arith) (omega arith))) (sorted_from es (λ i j d lt within. h (suc i) (suc j) d (omega arith) (omega arith)))

  pub in_order : (es : List (K × X)) → Ascending R (items es) → InOrder R es
  in_order es h = record { rises = IsTrue_from_T _ (sorted_from es h.rises) }

  module _ (o : IsTotalOrder R) where
    -- nothing is less than a key that is below all
    rank_below : (k : K) (es : List (K × X)) → T (below_all R k es) → rank_of R k (items es) ≡ 0
    rank_below k [] h = rank_none R k
    rank_below k (x ∷ es) h =
        let less : R k x.0 ≡ Less = Less_from_T _ (first_T _ _ h) in
        let more : R x.0 k ≡ Greater = o.antisymm x.0 k ∙ ap ordering_reverse less in
        let head : ◌≡◌ {A = ℕ} (cond (is_lt (R x.0 k)) 1 0) 0 = ap (λ r. cond (is_lt r) 1 0) more in
        let cons = rank_cons R k x.0 (items es) in
        omega (arith, cons, head, rank_below k es (second_T _ _ h))

    -- in entries that are in order a key's place is its rank
    place_of : (k : K) (es : List (K × X)) → T (is_sorted R es) → place R k es ≡ rank_of R k (items es)
    place_of k [] h = sym (rank_none R k)
    place_of k (x ∷ es) h =
        let cons = rank_cons R k x.0 (items es) in
        elim (R k x.0) as (λ r. R k x.0 ≡ r → by_order r 0 0 (suc (place R k es)) ≡ rank_of R k (items (x ∷ es))) [
          | Less ↦ λ p.
              let back : R x.0 k ≡ Greater = o.antisymm x.0 k ∙ ap ordering_reverse p in
              let head : ◌≡◌ {A = ℕ} (cond (is_lt (R x.0 k)) 1 0) 0 = ap (λ r. cond (is_lt r) 1 0) back in
              omega (arith, cons, head, rank_below k es (lower R o k x.0 es p (first_T _ _ h)))
          | Equal ↦ λ p.
              let back : R x.0 k ≡ Equal = o.antisymm x.0 k ∙ ap ordering_reverse p in
              let head : ◌≡◌ {A = ℕ} (cond (is_lt (R x.0 k)) 1 0) 0 = ap (λ r. cond (is_lt r) 1 0) back in
              omega (arith, cons, head, rank_below k es (lower_equal R o k x.0 es p (first_T _ _ h)))
          | Greater ↦ λ p.
              let back : R x.0 k ≡ Less = o.antisymm x.0 k ∙ ap ordering_reverse p in
              let head : ◌≡◌ {A = ℕ} (cond (is_lt (R x.0 k)) 1 0) 1 = ap (λ r. cond (is_lt r) 1 0) back in
              omega (arith, cons, head, place_of k es (second_T _ _ h))
        ] refl

    pub place_rank : (k : K) (es : List (K × X)) → InOrder R es → place R k es ≡ rank_of R k (items es)
    place_rank k es h = place_of k es (subst T (sym h.rises) tt)

module _ {K : Type 0} (R : K → K → Ordering) (o : IsTotalOrder R) where
  pub rises_units : (x y : K) (others : List K) → slice_get others 0 ≡ Some y → R x y ≡ Less → is_sorted R (units (x ∷ others)) ≡ is_sorted R (units others)
  rises_units x y [] e p = cc
  rises_units x y (z ∷ others) e p = let same : z ≡ y = cc in rises_behind R o (x, tt) (z, tt) (units (z ∷ others)) refl (ap (λ t. R x t) same ∙ p)

  pub order_of_units : (xs : List K) → Ascending R xs → IsTrue (is_sorted R (units xs))
  order_of_units xs h = (in_order R (units xs) (subst (λ (t : List K). Ascending R t) (sym (items_units xs)) h)).rises

  pub units_in_order : (xs : List K) → is_sorted R (units xs) ≡ true → Ascending R xs
  units_in_order xs h = subst (λ (t : List K). Ascending R t) (items_units xs) (ascending R (units xs) (record { rises = h }))
