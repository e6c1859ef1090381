-- The entries between two keys lie together.
use Rattle.std.proofs.Common.{◌≡◌, ◌⊎◌, inl, inr, Bool, false, not, T, List, [], ◌∷◌, suc, ◌-◌, ◌≤◌, take, drop, refl, sym, ap, subst, ◌∙◌, ◌&&◌, arith}
use Rattle.std.specs.Prelude.{filter}
use Rattle.std.specs.declared.cmp.Ordering.{Ordering}
use Rattle.std.specs.declared.cmp.Ordering.TheVariants.{Less, Equal, Greater}
use Rattle.std.specs.Ordering.{is_gt}
use Rattle.std.specs.Cmp.{IsTotalOrder}
use Rattle.std.specs.FinMap.{is_sorted}
use Rattle.std.specs.FinMap.Entries.{by_order, below_all}
use Rattle.acap_ordmap.specs.Sorted.{place, InOrder}
use Rattle.acap_ordmap.proofs.Logic.{first_T, second_T, Less_from_T}

told : (r : Ordering) → (r ≡ Greater) ⊎ ((r ≡ Less) ⊎ (r ≡ Equal))
told Less = inr (inl refl)
told Equal = inr (inr refl)
told Greater = inl refl

module _ {K : Type 0} (R : K → K → Ordering) (o : IsTotalOrder R) where
  beyond : (k : K) (x y : K) → (R k x ≡ Less) ⊎ (R k x ≡ Equal) → R x y ≡ Less → R k y ≡ Less
  beyond k x y (inl e) h = o.trans k x y e h
  beyond k x y (inr e) h = o.congr k x y e ∙ h

module _ {K X : Type 0} (R : K → K → Ordering) (o : IsTotalOrder R) where
  -- the entries from one key on and before another
  abbrev pub lies_between : K → K → K × X → Bool
  lies_between k l e = is_gt (R l e.0) && not (is_gt (R k e.0))

  none_between : (k l x : K) (es : List (K × X)) → (R l x ≡ Less) ⊎ (R l x ≡ Equal) → T (below_all R x es) → filter (lies_between k l) es ≡ []
  none_between k l x [] e h = refl
  none_between k l x (y ∷ es) e h =
      let past : R l y.0 ≡ Less = beyond R o l x y.0 e (Less_from_T _ (first_T _ _ h)) in
      rw past (none_between k l x es e (second_T _ _ h))

  none_before : (k x : K) (es : List (K × X)) → (R k x ≡ Less) ⊎ (R k x ≡ Equal) → T (below_all R x es) → place R k es ≡ 0
  none_before k x [] e h = refl
  none_before k x (y ∷ es) e h = ap (λ r. by_order r 0 0 (suc (place R k es))) (beyond R o k x y.0 e (Less_from_T _ (first_T _ _ h)))

  at_front : (k l : K) (x : K × X) (es : List (K × X)) → (R k x.0 ≡ Less) ⊎ (R k x.0 ≡ Equal) → is_gt (R k x.0) ≡ false → by_order (R k x.0) 0 0 (suc (place R k es)) ≡ 0
      → T (below_all R x.0 es) → filter (lies_between k l) es ≡ take (place R l es - place R k es) (drop (place R k es) es)
      → filter (lies_between k l) (x ∷ es) ≡ take (place R l (x ∷ es) - place R k (x ∷ es)) (drop (place R k (x ∷ es)) (x ∷ es))
  at_front k l x es e low none h rest =
      elim (told (R l x.0)) [
        | inl past ↦
            let front = none_before k x.0 es e h in
            let all : place R l es - 0 ≡ place R l es = omega arith in
            let more : suc (place R l es) - 0 ≡ suc (place R l es) = omega arith in
            let after : filter (lies_between k l) es ≡ take (place R l es) es = rest ∙ ap (λ n. take (place R l es - n) (drop n es)) front ∙ ap (λ n. take n es) all in
            rw (past, low, none, more) (ap (λ (t : List (K × X)). x ∷ t) after)
        | inr q ↦
            let gone = none_between k l x.0 es q h in
            elim q [ inl e2 ↦ rw (none, e2) gone | inr e2 ↦ rw (none, e2) gone ]
      ]

  between_within : (k l : K) → ((x : K) → R k x ≡ Greater → R l x ≡ Greater) → (es : List (K × X)) → T (is_sorted R es) → filter (lies_between k l) es ≡ take (place R l es - place R k es) (drop (place R k es) es)
  between_within k l h [] s = refl
  between_within k l h (x ∷ es) s =
      elim (told (R k x.0)) [
        | inl e ↦
            let less : suc (place R l es) - suc (place R k es) ≡ place R l es - place R k es = omega arith in
            rw (e, h x.0 e, less) (between_within k l h es (second_T _ _ s))
        | inr (inl e) ↦ at_front k l x es (inl e) (ap is_gt e) (ap (λ r. by_order r 0 0 (suc (place R k es))) e) (first_T _ _ s) (between_within k l h es (second_T _ _ s))
        | inr (inr e) ↦ at_front k l x es (inr e) (ap is_gt e) (ap (λ r. by_order r 0 0 (suc (place R k es))) e) (first_T _ _ s) (between_within k l h es (second_T _ _ s))
      ]

  pub between : (k l : K) → ((x : K) → R k x ≡ Greater → R l x ≡ Greater) → (es : List (K × X)) → InOrder R es → filter (lies_between k l) es ≡ take (place R l es - place R k es) (drop (place R k es) es)
  between k l h es s = between_within k l h es (subst T (sym s.rises) tt)

  pub place_rises : (k l : K) → ((x : K) → R k x ≡ Greater → R l x ≡ Greater) → (es : List (K × X)) → place R k es ≤ place R l es
  place_rises k l h [] = omega arith
  place_rises k l h (x ∷ es) =
      elim (told (R k x.0)) [
        | inl e ↦ rw (e, h x.0 e) (omega (arith, place_rises k l h es))
        | inr (inl e) ↦ rw e (omega arith)
        | inr (inr e) ↦ rw e (omega arith)
      ]
