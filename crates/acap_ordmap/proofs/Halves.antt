-- What one comparison says of the place of a key.
use Rattle.std.proofs.Common.{◌≡◌, ℕ, zero, suc, ◌<◌, ◌≤◌, true, false, T, List, [], ◌∷◌, length, get_or, refl, sym, ap, subst, ◌∙◌, arith}
use Rattle.std.specs.declared.cmp.Ordering.{Ordering}
use Rattle.std.specs.declared.cmp.Ordering.TheVariants.{Less, Equal, Greater}
use Rattle.std.specs.Cmp.{IsTotalOrder}
use Rattle.std.specs.FinMap.{is_sorted}
use Rattle.std.specs.FinMap.Entries.{by_order, below_all}
use Rattle.acap_ordmap.specs.Sorted.{place, is_tied, InOrder}
use Rattle.acap_ordmap.proofs.Logic.{first_T, second_T, Less_from_T}

module _ {K X : Type 0} (R : K → K → Ordering) (o : IsTotalOrder R) where
  below_index : (l : K) (es : List (K × X)) (m : ℕ) (d : K × X) → T (below_all R l es) → m < length es → R l (get_or es m d).0 ≡ Less
  below_index l [] m d h lt = absurd (omega arith)
  below_index l (x ∷ es) zero d h lt = Less_from_T _ (first_T _ _ h)
  below_index l (x ∷ es) (suc m) d h lt = below_index l es m d (second_T _ _ h) (omega arith)

  probe_less : (k : K) (es : List (K × X)) (m : ℕ) (d : K × X) → T (is_sorted R es) → m < length es → R k (get_or es m d).0 ≡ Less → (place R k es ≤ m) × (is_tied R k es ≡ true → place R k es < m)
  probe_less k [] m d h lt e = absurd (omega arith)
  probe_less k (x ∷ es) zero d h lt e = subst (λ r. (by_order r 0 0 (suc (place R k es)) ≤ 0) × (by_order r false true (is_tied R k es) ≡ true → by_order r 0 0 (suc (place R k es)) < 0)) (sym e) (omega arith, λ t. cc)
  probe_less k (x ∷ es) (suc m) d h lt e = elim (R k x.0) as (λ r. (by_order r 0 0 (suc (place R k es)) ≤ suc m) × (by_order r false true (is_tied R k es) ≡ true → by_order r 0 0 (suc (place R k es)) < suc m)) [
    | Less ↦ (omega arith, λ t. omega arith)
    | Equal ↦ (omega arith, λ t. omega arith)
    | Greater ↦ let rest = probe_less k es m d (second_T _ _ h) (omega arith) e in (omega (arith, rest.0), λ t. omega (arith, rest.1 t))
  ]

  later_less : (k : K) (x : K × X) (es : List (K × X)) (m : ℕ) (d : K × X) → T (is_sorted R (x ∷ es)) → m < length es → R k x.0 ≡ Less → R k (get_or es m d).0 ≡ Less
  later_less k x es m d h lt e = o.trans k x.0 _ e (below_index x.0 es m d (first_T _ _ h) lt)

  later_equal : (k : K) (x : K × X) (es : List (K × X)) (m : ℕ) (d : K × X) → T (is_sorted R (x ∷ es)) → m < length es → R k x.0 ≡ Equal → R k (get_or es m d).0 ≡ Less
  later_equal k x es m d h lt e = o.congr k x.0 _ e ∙ below_index x.0 es m d (first_T _ _ h) lt

  probe_equal : (k : K) (es : List (K × X)) (m : ℕ) (d : K × X) → T (is_sorted R es) → m < length es → R k (get_or es m d).0 ≡ Equal → (place R k es ≡ m) × (is_tied R k es ≡ true)
  probe_equal k [] m d h lt e = absurd (omega arith)
  probe_equal k (x ∷ es) zero d h lt e = subst (λ r. (by_order r 0 0 (suc (place R k es)) ≡ 0) × (by_order r false true (is_tied R k es) ≡ true)) (sym e) (refl, refl)
  probe_equal k (x ∷ es) (suc m) d h lt e = elim (R k x.0) as (λ r. R k x.0 ≡ r → (by_order r 0 0 (suc (place R k es)) ≡ suc m) × (by_order r false true (is_tied R k es) ≡ true)) [
    | Less ↦ λ p. let less = later_less k x es m d h (omega arith) p in absurd (cc (less, e))
    | Equal ↦ λ p. let less = later_equal k x es m d h (omega arith) p in absurd (cc (less, e))
    | Greater ↦ λ p. let rest = probe_equal k es m d (second_T _ _ h) (omega arith) e in (ap suc rest.0, rest.1)
  ] refl

  probe_greater : (k : K) (es : List (K × X)) (m : ℕ) (d : K × X) → T (is_sorted R es) → m < length es → R k (get_or es m d).0 ≡ Greater → m < place R k es
  probe_greater k [] m d h lt e = absurd (omega arith)
  probe_greater k (x ∷ es) zero d h lt e = subst (λ r. 0 < by_order r 0 0 (suc (place R k es))) (sym e) (omega arith)
  probe_greater k (x ∷ es) (suc m) d h lt e = elim (R k x.0) as (λ r. R k x.0 ≡ r → suc m < by_order r 0 0 (suc (place R k es))) [
    | Less ↦ λ p. let less = later_less k x es m d h (omega arith) p in absurd (cc (less, e))
    | Equal ↦ λ p. let less = later_equal k x es m d h (omega arith) p in absurd (cc (less, e))
    | Greater ↦ λ p. omega (arith, probe_greater k es m d (second_T _ _ h) (omega arith) e)
  ] refl

  pub less_at : (k : K) (es : List (K × X)) (m : ℕ) (d : K × X) → InOrder R es → m < length es → R k (get_or es m d).0 ≡ Less → (place R k es ≤ m) × (is_tied R k es ≡ true → place R k es < m)
  less_at k es m d h lt e = probe_less k es m d (subst T (sym h.rises) tt) lt e

  pub equal_at : (k : K) (es : List (K × X)) (m : ℕ) (d : K × X) → InOrder R es → m < length es → R k (get_or es m d).0 ≡ Equal → (place R k es ≡ m) × (is_tied R k es ≡ true)
  equal_at k es m d h lt e = probe_equal k es m d (subst T (sym h.rises) tt) lt e

  pub greater_at : (k : K) (es : List (K × X)) (m : ℕ) (d : K × X) → InOrder R es → m < length es → R k (get_or es m d).0 ≡ Greater → m < place R k es
  greater_at k es m d h lt e = probe_greater k es m d (subst T (sym h.rises) tt) lt e
