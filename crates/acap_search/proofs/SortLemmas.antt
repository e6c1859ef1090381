-- A list that a stable sort leaves is the one that insertions in order make.
use Rattle.std.proofs.Common.{◌≡◌, ℕ, zero, suc, ◌<◌, ◌≤◌, Bool, true, false, not, cond, ◌&&◌, List, [], ◌∷◌, length, get_or, refl, sym, ◌∙◌, ap, arith}
use Rattle.std.specs.List.{filter}
use Rattle.std.specs.Cmp.{IsStrictWeakOrder}
use Rattle.std.specs.List.Sorted.{IsSortedBy, IsStableBy, ties}
use Rattle.std.proofs.lemmas.List.Sorted.{sorted_far}
use Rattle.acap_search.specs.Matches.{put_by, sorted_from, sorted_by}

module _ {X : Type 0} (lt : X → X → Bool) (o : IsStrictWeakOrder lt) where
  -- none of them is below x
  abbrev pub Above : X → List X → Type 0
  Above x [] = Unit {0}
  Above x (y ∷ ys) = (lt y x ≡ false) × Above x ys

  abbrev pub Rises : List X → Type 0
  Rises [] = Unit {0}
  Rises (x ∷ xs) = Above x xs × Rises xs

  pub not_below_itself : (x : X) → lt x x ≡ false
  not_below_itself x = elim (lt x x) as (λ b. lt x x ≡ b → b ≡ false) [ true ↦ λ e. sym e ∙ o.one_way x x e | false ↦ λ e. refl ] refl

  pub above_lower : (x y : X) (zs : List X) → lt y x ≡ false → Above y zs → Above x zs
  above_lower x y [] e h = tt
  above_lower x y (z ∷ zs) e h = (o.chain z y x h.0 e, above_lower x y zs e h.1)

  put_above : (a x : X) (ys : List X) → lt x a ≡ false → Above a ys → Above a (put_by lt x ys)
  put_above a x [] e h = (e, tt)
  put_above a x (y ∷ ys) e h = elim (lt y x) as (λ b. Above a (cond b (y ∷ put_by lt x ys) (x ∷ y ∷ ys))) [ true ↦ (h.0, put_above a x ys e h.1) | false ↦ (e, h) ]

  put_rises : (x : X) (ys : List X) → Rises ys → Rises (put_by lt x ys)
  put_rises x [] h = (tt, tt)
  put_rises x (y ∷ ys) h =
      elim (lt y x) as (λ b. lt y x ≡ b → Rises (cond b (y ∷ put_by lt x ys) (x ∷ y ∷ ys))) [
        | true ↦ λ e. (put_above y x ys (o.one_way y x e) h.0, put_rises x ys h.1)
        | false ↦ λ e. ((e, above_lower x y ys e h.0), h)
      ] refl

  pub sorted_rises : (xs : List X) → Rises (sorted_from lt xs)
  sorted_rises [] = tt
  sorted_rises (x ∷ xs) = put_rises x (sorted_from lt xs) (sorted_rises xs)

  -- of two that don't tie with one another, one at most ties with z
  apart : (z x y : X) → lt y x ≡ true → ties lt z x ≡ true → ties lt z y ≡ true → true ≡ false
  apart z x y e p q =
      elim (lt z x) as (λ b. lt z x ≡ b → true ≡ false) [
        | true ↦ λ u. sym p ∙ ap (λ b. not b && not (lt x z)) u
        | false ↦ λ u. elim (lt y z) as (λ b. lt y z ≡ b → true ≡ false) [
          | true ↦ λ v. sym q ∙ (ap (λ b. not (lt z y) && not b) v ∙ (elim (lt z y) as (λ b. (not b && false) ≡ false) [ true ↦ refl | false ↦ refl ]))
          | false ↦ λ v. sym e ∙ o.chain y z x v u
        ] refl
      ] refl

  swapped : (b c : Bool) (x y : X) (zs : List X) → (b ≡ true → c ≡ true → true ≡ false) → cond c (y ∷ cond b (x ∷ zs) zs) (cond b (x ∷ zs) zs) ≡ cond b (x ∷ cond c (y ∷ zs) zs) (cond c (y ∷ zs) zs)
  swapped true true x y zs h = absurd (cc (h refl refl))
  swapped true false x y zs h = refl
  swapped false true x y zs h = refl
  swapped false false x y zs h = refl

  put_ties : (z x : X) (ys : List X) → filter (ties lt z) (put_by lt x ys) ≡ filter (ties lt z) (x ∷ ys)
  put_ties z x [] = refl
  put_ties z x (y ∷ ys) =
      elim (lt y x) as (λ b. lt y x ≡ b → filter (ties lt z) (cond b (y ∷ put_by lt x ys) (x ∷ y ∷ ys)) ≡ filter (ties lt z) (x ∷ y ∷ ys)) [
        | true ↦ λ e. ap (λ r. cond (ties lt z y) (y ∷ r) r) (put_ties z x ys) ∙ swapped (ties lt z x) (ties lt z y) x y (filter (ties lt z) ys) (apart z x y e)
        | false ↦ λ e. refl
      ] refl

  pub sorted_ties : (z : X) (xs : List X) → filter (ties lt z) (sorted_from lt xs) ≡ filter (ties lt z) xs
  sorted_ties z [] = refl
  sorted_ties z (x ∷ xs) = put_ties z x (sorted_from lt xs) ∙ ap (λ r. cond (ties lt z x) (x ∷ r) r) (sorted_ties z xs)

  ties_itself : (x : X) → ties lt x x ≡ true
  ties_itself x = ap (λ b. not b && not b) (not_below_itself x)

  -- x is below y, and none of the others is below y
  no_ties : (x y : X) (zs : List X) → lt x y ≡ true → Above y zs → filter (ties lt x) zs ≡ []
  no_ties x y [] e h = refl
  no_ties x y (z ∷ zs) e h =
      elim (lt x z) as (λ b. lt x z ≡ b → cond (ties lt x z) (z ∷ filter (ties lt x) zs) (filter (ties lt x) zs) ≡ []) [
        | true ↦ λ u. ap (λ b. cond (not b && not (lt z x)) (z ∷ filter (ties lt x) zs) (filter (ties lt x) zs)) u ∙ no_ties x y zs e h.1
        | false ↦ λ u. absurd (cc (o.chain x z y u h.0))
      ] refl

  abbrev pub SameTies : List X → List X → Type 0
  SameTies xs ys = (z : X) → filter (ties lt z) xs ≡ filter (ties lt z) ys

  below_not : (x y : X) (xs ys : List X) → Above y ys → SameTies (x ∷ xs) (y ∷ ys) → lt x y ≡ true → true ≡ false
  below_not x y xs ys h s e =
      let none : filter (ties lt x) (y ∷ ys) ≡ [] = no_ties x y (y ∷ ys) e (not_below_itself y, h) in
      let first : filter (ties lt x) (x ∷ xs) ≡ x ∷ filter (ties lt x) xs = ap (λ b. cond b (x ∷ filter (ties lt x) xs) (filter (ties lt x) xs)) (ties_itself x) in
      let at : filter (ties lt x) (x ∷ xs) ≡ filter (ties lt x) (y ∷ ys) = s x in
      absurd (cc (none, first, at))

  not_below : (x y : X) (xs ys : List X) → Above y ys → SameTies (x ∷ xs) (y ∷ ys) → lt x y ≡ false
  not_below x y xs ys h s = elim (lt x y) as (λ b. lt x y ≡ b → b ≡ false) [ true ↦ λ e. below_not x y xs ys h s e | false ↦ λ e. refl ] refl

  same_behind : (b : Bool) (x : X) (us vs : List X) → cond b (x ∷ us) us ≡ cond b (x ∷ vs) vs → us ≡ vs
  same_behind true x us vs e = cc
  same_behind false x us vs e = e

  pub same_sorted : (xs ys : List X) → Rises xs → Rises ys → SameTies xs ys → xs ≡ ys
  same_sorted [] [] g h s = refl
  same_sorted [] (y ∷ ys) g h s =
      let at : filter (ties lt y) [] ≡ filter (ties lt y) (y ∷ ys) = s y in
      let first : filter (ties lt y) (y ∷ ys) ≡ y ∷ filter (ties lt y) ys = ap (λ b. cond b (y ∷ filter (ties lt y) ys) (filter (ties lt y) ys)) (ties_itself y) in
      absurd (cc (at, first))
  same_sorted (x ∷ xs) [] g h s =
      let at : filter (ties lt x) (x ∷ xs) ≡ filter (ties lt x) [] = s x in
      let first : filter (ties lt x) (x ∷ xs) ≡ x ∷ filter (ties lt x) xs = ap (λ b. cond b (x ∷ filter (ties lt x) xs) (filter (ties lt x) xs)) (ties_itself x) in
      absurd (cc (at, first))
  same_sorted (x ∷ xs) (y ∷ ys) g h s =
      let over : lt x y ≡ false = not_below x y xs ys h.0 s in
      let under : lt y x ≡ false = not_below y x ys xs g.0 (λ z. sym (s z)) in
      let tied : ties lt x y ≡ true = ap (λ b. not b && not (lt y x)) over ∙ ap (λ b. not b) under in
      let left : filter (ties lt x) (x ∷ xs) ≡ x ∷ filter (ties lt x) xs = ap (λ b. cond b (x ∷ filter (ties lt x) xs) (filter (ties lt x) xs)) (ties_itself x) in
      let right : filter (ties lt x) (y ∷ ys) ≡ y ∷ filter (ties lt x) ys = ap (λ b. cond b (y ∷ filter (ties lt x) ys) (filter (ties lt x) ys)) tied in
      let at : filter (ties lt x) (x ∷ xs) ≡ filter (ties lt x) (y ∷ ys) = s x in
      let heads : x ≡ y = cc (left, right, at) in
      let tails : SameTies xs ys = λ z. same_behind (ties lt z x) x _ _ (s z ∙ ap (λ w. cond (ties lt z w) (w ∷ filter (ties lt z) ys) (filter (ties lt z) ys)) (sym heads)) in
      let rest : xs ≡ ys = same_sorted xs ys g.1 h.1 tails in
      cc (heads, rest)

  abbrev Far : List X → Type 0
  Far xs = (i j : ℕ) (d : X) → i ≤ j → j < length xs → lt (get_or xs j d) (get_or xs i d) ≡ false

  above_far : (x : X) (xs : List X) → ((j : ℕ) (d : X) → j < length xs → lt (get_or xs j d) x ≡ false) → Above x xs
  above_far x [] h = tt
  above_far x (y ∷ ys) h = (h zero y (omega arith), above_far x ys (λ j d k. h (suc j) d (omega arith)))

  rises_far : (xs : List X) → Far xs → Rises xs
  rises_far [] h = tt
  rises_far (x ∷ xs) h = (above_far x xs (λ j d k. h zero (suc j) d (omega arith) (omega arith)), rises_far xs (λ i j d a b. h (suc i) (suc j) d (omega arith) (omega arith)))

  pub sorted_is : (xs ys : List X) → IsSortedBy lt ys → IsStableBy lt xs ys → ys ≡ sorted_by lt xs
  unfolding sorted_by
  sorted_is xs ys s t = same_sorted ys (sorted_from lt xs) (rises_far ys (sorted_far lt o ys s)) (sorted_rises xs) (λ z. t z ∙ sym (sorted_ties z xs))

  -- what is sorted rises, and what rises stays as it is
  pub sorted_by_rises : (xs : List X) → Rises (sorted_by lt xs)
  unfolding sorted_by
  sorted_by_rises xs = sorted_rises xs

  pub rising_stays : (xs : List X) → Rises xs → sorted_by lt xs ≡ xs
  unfolding sorted_by
  rising_stays xs r = sym (same_sorted xs (sorted_from lt xs) r (sorted_rises xs) (λ z. sym (sorted_ties z xs)))

  -- lists of the same ties are sorted alike
  pub sorted_alike : (xs ys : List X) → SameTies xs ys → sorted_by lt xs ≡ sorted_by lt ys
  unfolding sorted_by
  sorted_alike xs ys s =
      same_sorted (sorted_from lt xs) (sorted_from lt ys) (sorted_rises xs) (sorted_rises ys) (λ z. sorted_ties z xs ∙ (s z ∙ sym (sorted_ties z ys)))

  -- a sort keeps the ties
  pub ties_kept : (z : X) (xs : List X) → filter (ties lt z) (sorted_by lt xs) ≡ filter (ties lt z) xs
  unfolding sorted_by
  ties_kept z xs = sorted_ties z xs
