-- What the place of a key says of a list of entries.
use Rattle.std.proofs.Common.{◌≡◌, suc, ◌<◌, ◌≤◌, true, false, not, cond, T, List, [], ◌∷◌, length, get_or, set, Some, None, refl, sym, ap, subst, ◌∙◌, arith, ◌&&◌}
use Rattle.std.specs.declared.cmp.Ordering.{Ordering}
use Rattle.std.specs.declared.cmp.Ordering.TheVariants.{Less, Equal, Greater}
use Rattle.std.specs.Ordering.{is_eq}
use Rattle.std.specs.Cmp.{IsTotalOrder}
use Rattle.std.specs.List.{insert, remove, slice_get}
use Rattle.std.specs.FinMap.{find, put, is_sorted}
use Rattle.std.specs.FinMap.Entries.{by_order, below_all}
use Rattle.acap_ordmap.specs.Sorted.{place, is_tied, without, found, entry_of, put_in, InOrder}
use Rattle.acap_ordmap.proofs.Logic.{first_T, second_T, Less_from_T}

module _ {K X : Type 0} (R : K → K → Ordering) where
  pub place_le : (k : K) (es : List (K × X)) → place R k es ≤ length es
  place_le k [] = omega arith
  place_le k (e ∷ es) = elim (R k e.0) as (λ o. by_order o 0 0 (suc (place R k es)) ≤ suc (length es)) [
    | Less ↦ omega arith
    | Equal ↦ omega arith
    | Greater ↦ omega (arith, place_le k es)
  ]

  pub tied_lt : (k : K) (es : List (K × X)) → is_tied R k es ≡ true → place R k es < length es
  tied_lt k [] = λ e. cc
  tied_lt k (x ∷ es) = elim (R k x.0) as (λ o. by_order o false true (is_tied R k es) ≡ true → by_order o 0 0 (suc (place R k es)) < suc (length es)) [
    | Less ↦ λ e. cc
    | Equal ↦ λ e. omega arith
    | Greater ↦ λ e. omega (arith, tied_lt k es e)
  ]

  put_absent : (k : K) (v : X) (es : List (K × X)) → is_tied R k es ≡ false → put R k v es ≡ insert es (place R k es) (k, v)
  put_absent k v [] = λ e. refl
  put_absent k v (x ∷ es) = elim (R k x.0) as (λ o. by_order o false true (is_tied R k es) ≡ false → by_order o ((k, v) ∷ x ∷ es) ((x.0, v) ∷ es) (x ∷ put R k v es) ≡ insert (x ∷ es) (by_order o 0 0 (suc (place R k es))) (k, v)) [
    | Less ↦ λ e. refl
    | Equal ↦ λ e. cc
    | Greater ↦ λ e. ap (λ t. x ∷ t) (put_absent k v es e)
  ]

  put_tied : (k : K) (v : X) (es : List (K × X)) (d : K × X) → is_tied R k es ≡ true → put R k v es ≡ set es (place R k es) ((get_or es (place R k es) d).0, v)
  put_tied k v [] d = λ e. cc
  put_tied k v (x ∷ es) d = elim (R k x.0) as (λ o. by_order o false true (is_tied R k es) ≡ true → by_order o ((k, v) ∷ x ∷ es) ((x.0, v) ∷ es) (x ∷ put R k v es) ≡ set (x ∷ es) (by_order o 0 0 (suc (place R k es))) ((get_or (x ∷ es) (by_order o 0 0 (suc (place R k es))) d).0, v)) [
    | Less ↦ λ e. cc
    | Equal ↦ λ e. refl
    | Greater ↦ λ e. ap (λ t. x ∷ t) (put_tied k v es d e)
  ]

  pub put_in_absent : (k : K) (v : X) (es : List (K × X)) → is_tied R k es ≡ false → put_in R k v es ≡ insert es (place R k es) (k, v)
  unfolding put_in
  put_in_absent k v es e = put_absent k v es e

  pub put_in_tied : (k : K) (v : X) (es : List (K × X)) (d : K × X) → is_tied R k es ≡ true → put_in R k v es ≡ set es (place R k es) ((get_or es (place R k es) d).0, v)
  unfolding put_in
  put_in_tied k v es d e = put_tied k v es d e

  module _ (o : IsTotalOrder R) where
    pub lower : (k l : K) (es : List (K × X)) → R k l ≡ Less → T (below_all R l es) → T (below_all R k es)
    lower k l [] p h = tt
    lower k l (x ∷ es) p h =
        let less : R k x.0 ≡ Less = o.trans k l x.0 p (Less_from_T _ (first_T _ _ h)) in
        rw less (lower k l es p (second_T _ _ h))

    pub lower_equal : (k l : K) (es : List (K × X)) → R k l ≡ Equal → T (below_all R l es) → T (below_all R k es)
    lower_equal k l [] p h = tt
    lower_equal k l (x ∷ es) p h =
        let less : R k x.0 ≡ Less = o.congr k l x.0 p ∙ Less_from_T _ (first_T _ _ h) in
        rw less (lower_equal k l es p (second_T _ _ h))

    -- a key below the first_T adds nothing to ask for
    rises_on : (x y : K × X) (es : List (K × X)) → R x.0 y.0 ≡ Less → is_sorted R (x ∷ y ∷ es) ≡ is_sorted R (y ∷ es)
    rises_on x y es p = rw p (elim (below_all R y.0 es) as (λ b. below_all R y.0 es ≡ b → (below_all R x.0 es && (b && is_sorted R es)) ≡ (b && is_sorted R es)) [
      | true ↦ λ e. let low : T (below_all R x.0 es) = lower x.0 y.0 es p (subst T (sym e) tt) in elim (below_all R x.0 es) as (λ b. T b → (b && is_sorted R es) ≡ is_sorted R es) [ true ↦ λ t. refl | false ↦ λ t. absurd t ] low
      | false ↦ λ e. elim (below_all R x.0 es) as (λ b. (b && false) ≡ false) [ true ↦ refl | false ↦ refl ]
    ] refl)

    -- the same, the first_T of those after being known
    pub rises_behind : (x y : K × X) (others : List (K × X)) → slice_get others 0 ≡ Some y → R x.0 y.0 ≡ Less → is_sorted R (x ∷ others) ≡ is_sorted R others
    rises_behind x y [] e p = cc
    rises_behind x y (z ∷ es) e p = let same : z ≡ y = cc in rises_on x z es (ap (λ t. R x.0 t.0) same ∙ p)

    pub below_missing : (k l : K) (es : List (K × X)) → R k l ≡ Less → T (below_all R l es) → find R k es ≡ None
    below_missing k l [] p h = refl
    below_missing k l (x ∷ es) p h =
        let less : R k x.0 ≡ Less = o.trans k l x.0 p (Less_from_T _ (first_T _ _ h)) in
        ap (λ r. cond (is_eq r) (Some x.1) (find R k es)) less ∙ below_missing k l es p (second_T _ _ h)

    pub below_kept : (k l : K) (es : List (K × X)) → R k l ≡ Less → T (below_all R l es) → without R k es ≡ es
    unfolding without
    below_kept k l [] p h = refl
    below_kept k l (x ∷ es) p h =
        let less : R k x.0 ≡ Less = o.trans k l x.0 p (Less_from_T _ (first_T _ _ h)) in
        ap (λ r. cond (not (is_eq r)) (x ∷ without R k es) (without R k es)) less ∙ ap (λ t. x ∷ t) (below_kept k l es p (second_T _ _ h))

    pub equal_kept : (k l : K) (es : List (K × X)) → R k l ≡ Equal → T (below_all R l es) → without R k es ≡ es
    unfolding without
    equal_kept k l [] p h = refl
    equal_kept k l (x ∷ es) p h =
        let less : R k x.0 ≡ Less = o.congr k l x.0 p ∙ Less_from_T _ (first_T _ _ h) in
        ap (λ r. cond (not (is_eq r)) (x ∷ without R k es) (without R k es)) less ∙ ap (λ t. x ∷ t) (equal_kept k l es p (second_T _ _ h))

    find_at : (k : K) (es : List (K × X)) (d : K × X) → T (is_sorted R es) → is_tied R k es ≡ true → find R k es ≡ Some (get_or es (place R k es) d).1
    find_at k [] d h = λ e. cc
    find_at k (x ∷ es) d h = elim (R k x.0) as (λ r. by_order r false true (is_tied R k es) ≡ true → cond (is_eq r) (Some x.1) (find R k es) ≡ Some (get_or (x ∷ es) (by_order r 0 0 (suc (place R k es))) d).1) [
      | Less ↦ λ e. cc
      | Equal ↦ λ e. refl
      | Greater ↦ λ e. find_at k es d (second_T _ _ h) e
    ]

    pub below_entry : (k l : K) (es : List (K × X)) → R k l ≡ Less → T (below_all R l es) → entry_of R k es ≡ None
    unfolding entry_of
    below_entry k l [] p h = refl
    below_entry k l (x ∷ es) p h =
        let less : R k x.0 ≡ Less = o.trans k l x.0 p (Less_from_T _ (first_T _ _ h)) in
        ap (λ r. cond (is_eq r) (Some x) (entry_of R k es)) less ∙ below_entry k l es p (second_T _ _ h)

    entry_at : (k : K) (es : List (K × X)) (d : K × X) → T (is_sorted R es) → is_tied R k es ≡ true → entry_of R k es ≡ Some (get_or es (place R k es) d)
    unfolding entry_of
    entry_at k [] d h = λ e. cc
    entry_at k (x ∷ es) d h = elim (R k x.0) as (λ r. by_order r false true (is_tied R k es) ≡ true → cond (is_eq r) (Some x) (entry_of R k es) ≡ Some (get_or (x ∷ es) (by_order r 0 0 (suc (place R k es))) d)) [
      | Less ↦ λ e. cc
      | Equal ↦ λ e. refl
      | Greater ↦ λ e. entry_at k es d (second_T _ _ h) e
    ]

    entry_none : (k : K) (es : List (K × X)) → T (is_sorted R es) → is_tied R k es ≡ false → entry_of R k es ≡ None
    unfolding entry_of
    entry_none k [] h = λ e. refl
    entry_none k (x ∷ es) h = elim (R k x.0) as (λ r. R k x.0 ≡ r → by_order r false true (is_tied R k es) ≡ false → cond (is_eq r) (Some x) (entry_of R k es) ≡ None) [
      | Less ↦ λ p e. below_entry k x.0 es p (first_T _ _ h)
      | Equal ↦ λ p e. cc
      | Greater ↦ λ p e. entry_none k es (second_T _ _ h) e
    ] refl

    find_none : (k : K) (es : List (K × X)) → T (is_sorted R es) → is_tied R k es ≡ false → find R k es ≡ None
    find_none k [] h = λ e. refl
    find_none k (x ∷ es) h = elim (R k x.0) as (λ r. R k x.0 ≡ r → by_order r false true (is_tied R k es) ≡ false → cond (is_eq r) (Some x.1) (find R k es) ≡ None) [
      | Less ↦ λ p e. below_missing k x.0 es p (first_T _ _ h)
      | Equal ↦ λ p e. cc
      | Greater ↦ λ p e. find_none k es (second_T _ _ h) e
    ] refl

    without_at : (k : K) (es : List (K × X)) → T (is_sorted R es) → without R k es ≡ cond (is_tied R k es) (remove es (place R k es)) es
    unfolding without
    without_at k [] h = refl
    without_at k (x ∷ es) h = elim (R k x.0) as (λ r. R k x.0 ≡ r → cond (not (is_eq r)) (x ∷ without R k es) (without R k es) ≡ cond (by_order r false true (is_tied R k es)) (remove (x ∷ es) (by_order r 0 0 (suc (place R k es)))) (x ∷ es)) [
      | Less ↦ λ p. ap (λ t. x ∷ t) (below_kept k x.0 es p (first_T _ _ h))
      | Equal ↦ λ p. equal_kept k x.0 es p (first_T _ _ h)
      | Greater ↦ λ p. ap (λ t. x ∷ t) (without_at k es (second_T _ _ h)) ∙ elim (is_tied R k es) as (λ b. x ∷ cond b (remove es (place R k es)) es ≡ cond b (remove (x ∷ es) (suc (place R k es))) (x ∷ es)) [ true ↦ refl | false ↦ refl ]
    ] refl

    -- the same by the words of `specs/`
    pub found_tied : (k : K) (es : List (K × X)) (d : K × X) → InOrder R es → is_tied R k es ≡ true → found R k es ≡ Some (get_or es (place R k es) d).1
    unfolding found
    found_tied k es d h e = find_at k es d (subst T (sym h.rises) tt) e

    pub found_absent : (k : K) (es : List (K × X)) → InOrder R es → is_tied R k es ≡ false → found R k es ≡ None
    unfolding found
    found_absent k es h e = find_none k es (subst T (sym h.rises) tt) e

    pub entry_tied : (k : K) (es : List (K × X)) (d : K × X) → InOrder R es → is_tied R k es ≡ true → entry_of R k es ≡ Some (get_or es (place R k es) d)
    entry_tied k es d h e = entry_at k es d (subst T (sym h.rises) tt) e

    pub entry_absent : (k : K) (es : List (K × X)) → InOrder R es → is_tied R k es ≡ false → entry_of R k es ≡ None
    entry_absent k es h e = entry_none k es (subst T (sym h.rises) tt) e

    pub without_tied : (k : K) (es : List (K × X)) → InOrder R es → is_tied R k es ≡ true → without R k es ≡ remove es (place R k es)
    without_tied k es h e = without_at k es (subst T (sym h.rises) tt) ∙ ap (λ b. cond b (remove es (place R k es)) es) e

    pub without_absent : (k : K) (es : List (K × X)) → InOrder R es → is_tied R k es ≡ false → without R k es ≡ es
    without_absent k es h e = without_at k es (subst T (sym h.rises) tt) ∙ ap (λ b. cond b (remove es (place R k es)) es) e
