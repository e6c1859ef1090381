-- Names that rise are known by their members, so the names that are touched tell what the changed ones do.
use Rattle.std.proofs.Common.{◌≡◌, Bool, true, false, ◌||◌, ◌&&◌, List, [], ◌∷◌, ◌++◌, Some, None, Option, refl, sym, ap, subst, ◌∙◌, cond}
use Rattle.std.specs.declared.cmp.Ordering.TheVariants.{Less, Equal, Greater}
use Rattle.std.specs.Ordering.{is_eq, ordering_reverse}
use Rattle.std.specs.Cmp.Lexicographic.{nat_list_cmp_total, texts_ties}
use Rattle.std.specs.List.{filter}
use Rattle.acap_entries.specs.Orders.{octets_cmp, octets_eq}
use Rattle.acap_entries.proofs.Equalities.{row_exact}
use Rattle.acap_moves.specs.Hits.{Name, Shape, is_among, IsBelow, IsAscending, fresh, spot}
use Rattle.acap_moves.specs.Notices.{notice_at, listed_notice, plain_notice, with_new_hit, stepwise}
use Rattle.acap_moves.proofs.Splits.{same_name, itself, among_first}
use borrow.Author.Tests.{eq-eqb}

apart : (p q : Name) → octets_cmp p q ≡ Less → octets_eq p q ≡ false
apart p q e = texts_ties p q ∙ ap is_eq e

above_out : (p : Name) (qs : List Name) → IsBelow p qs → is_among p qs ≡ false
unfolding is_among
above_out p [] a = refl
above_out p (q ∷ qs) a = rw (apart p q a.0, above_out p qs a.1) refl

above_more : (p q : Name) (qs : List Name) → octets_cmp p q ≡ Less → IsBelow q qs → IsBelow p qs
above_more p q [] h a = tt
above_more p q (r ∷ qs) h a = (nat_list_cmp_total.trans p q r h a.0, above_more p q qs h a.1)

less_out : (p q : Name) (qs : List Name) → octets_cmp p q ≡ Less → IsBelow q qs → is_among p (q ∷ qs) ≡ false
unfolding is_among
less_out p q qs h a = rw (apart p q h, above_out p qs (above_more p q qs h a)) refl

rest_same : (x : Name) (xs ys : List Name) → IsBelow x xs → IsBelow x ys → ((q : Name) → is_among q (x ∷ xs) ≡ is_among q (x ∷ ys)) → (q : Name) → is_among q xs ≡ is_among q ys
unfolding is_among
rest_same x xs ys a b m q = elim (octets_eq q x) as (λ t. octets_eq q x ≡ t → (t || is_among q xs) ≡ (t || is_among q ys) → is_among q xs ≡ is_among q ys) [
  | true ↦ λ t e. let same : q ≡ x = same_name q x t in subst (λ r. is_among r xs ≡ is_among r ys) (sym same) (above_out x xs a ∙ sym (above_out x ys b))
  | false ↦ λ t e. e
] refl (m q)

none_in : (q : Name) → is_among q [] ≡ false
unfolding is_among
none_in q = refl

pub same_ascending : (xs ys : List Name) → IsAscending xs → IsAscending ys → ((q : Name) → is_among q xs ≡ is_among q ys) → xs ≡ ys
same_ascending [] [] a b m = refl
same_ascending [] (y ∷ ys) a b m = let e = m y in let f = among_first y ys in let g : is_among y [] ≡ false = none_in y in absurd (cc (e, f, g))
same_ascending (x ∷ xs) [] a b m = let e = m x in let f = among_first x xs in let g : is_among x [] ≡ false = none_in x in absurd (cc (e, f, g))
same_ascending (x ∷ xs) (y ∷ ys) a b m = elim (octets_cmp x y) as (λ r. octets_cmp x y ≡ r → x ∷ xs ≡ y ∷ ys) [
  | Less ↦ λ r. let e = m x in let f = among_first x xs in let g = less_out x y ys r b.0 in absurd (cc (e, f, g))
  | Equal ↦ λ r.
      let same : x ≡ y = same_name x y (texts_ties x y ∙ ap is_eq r) in
      let above : IsBelow x ys = subst (λ z. IsBelow z ys) (sym same) b.0 in
      let members : (q : Name) → is_among q (x ∷ xs) ≡ is_among q (x ∷ ys) = λ q. m q ∙ ap (λ z. is_among q (z ∷ ys)) (sym same) in
      ap (λ zs. x ∷ zs) (same_ascending xs ys a.1 b.1 (rest_same x xs ys a.0 above members)) ∙ ap (λ z. z ∷ ys) same
  | Greater ↦ λ r. let e = m y in let f = among_first y ys in let g = less_out y x xs (nat_list_cmp_total.antisymm y x ∙ ap ordering_reverse r) a.0 in absurd (cc (e, f, g))
] refl

above_filter : (d : Name → Bool) (p : Name) (qs : List Name) → IsBelow p qs → IsBelow p (filter d qs)
above_filter d p [] a = tt
above_filter d p (q ∷ qs) a = elim (d q) as (λ b. IsBelow p (cond b (q ∷ filter d qs) (filter d qs))) [ true ↦ (a.0, above_filter d p qs a.1) | false ↦ above_filter d p qs a.1 ]

rises_filter : (d : Name → Bool) (ps : List Name) → IsAscending ps → IsAscending (filter d ps)
rises_filter d [] a = tt
rises_filter d (p ∷ ps) a = elim (d p) as (λ b. IsAscending (cond b (p ∷ filter d ps) (filter d ps))) [ true ↦ (above_filter d p ps a.0, rises_filter d ps a.1) | false ↦ rises_filter d ps a.1 ]

pub among_filter : (d : Name → Bool) (q : Name) (ps : List Name) → is_among q (filter d ps) ≡ (d q && is_among q ps)
unfolding is_among
among_filter d q [] = elim (d q) as (λ b. false ≡ (b && false)) [ true ↦ refl | false ↦ refl ]
among_filter d q (p ∷ ps) = elim (octets_eq q p) as (λ t. octets_eq q p ≡ t → is_among q (cond (d p) (p ∷ filter d ps) (filter d ps)) ≡ (d q && (t || is_among q ps))) [
  | true ↦ λ t. let same : q ≡ p = same_name q p t in
      rw (← same) (elim (d q) as (λ b. is_among q (filter d ps) ≡ (b && is_among q ps) → is_among q (cond b (q ∷ filter d ps) (filter d ps)) ≡ (b && true)) [
        | true ↦ λ e. rw (itself q q refl) refl
        | false ↦ λ e. e
      ] (among_filter d q ps))
  | false ↦ λ t. elim (d p) as (λ b. is_among q (cond b (p ∷ filter d ps) (filter d ps)) ≡ (d q && is_among q ps)) [
    | true ↦ rw t (among_filter d q ps)
    | false ↦ among_filter d q ps
  ]
] refl

held_by_both : (a b : Bool) → (a ≡ true → b ≡ true) → (a && b) ≡ a
held_by_both true b h = h refl
held_by_both false b h = refl

-- the changed ones of the names that are touched are all that are changed
changed_of : (changed touched : List Name) → IsAscending changed → IsAscending touched → ((q : Name) → is_among q changed ≡ true → is_among q touched ≡ true) → filter (λ p. is_among p changed) touched ≡ changed
changed_of changed touched a b w =
    same_ascending (filter (λ p. is_among p changed) touched) changed (rises_filter (λ p. is_among p changed) touched b) a
    (λ q. among_filter (λ p. is_among p changed) q touched ∙ held_by_both (is_among q changed) (is_among q touched) (w q))

module _ {H : Type 0} (v : Shape H) where
  no_notice : (enumerated : Bool) (p : Name) (es : List H) → notice_at v enumerated p es es ≡ []
  no_notice true p es = elim (spot v p es) as (λ o. listed_notice v p o o ≡ []) [ None ↦ refl | (Some a) ↦ rw (eq-eqb a.0 a.0 refl, (row_exact (v.row a.1) (v.row a.1)).1 refl) refl ]
  no_notice false p es = elim (spot v p es) as (λ o. plain_notice v p o o ≡ []) [ None ↦ refl | (Some a) ↦ rw ((row_exact (v.row a.1) (v.row a.1)).1 refl) refl ]

  moved_same : (c : Name) (new t : Name → Option H) → t c ≡ new c → with_new_hit c new t ≡ t
  unfolding with_new_hit
  moved_same c new t e = λ i q. (elim (octets_eq c q) as (λ b. octets_eq c q ≡ b → cond b (new q) (t q) ≡ t q) [
    | true ↦ λ b. let same : c ≡ q = same_name c q b in subst (λ r. new r ≡ t r) same (sym e)
    | false ↦ λ b. refl
  ] refl) i

  kept : (differs : Name → Bool) (c : Name) (new t : Name → Option H) → ((p : Name) → differs p ≡ false → t p ≡ new p) → (p : Name) → differs p ≡ false → with_new_hit c new t p ≡ new p
  unfolding with_new_hit
  kept differs c new t k p n = elim (octets_eq c p) as (λ b. cond b (new p) (t p) ≡ new p) [ true ↦ refl | false ↦ k p n ]

  touched_filter : (enumerated : Bool) (t new : Name → Option H) (names touched : List Name) (differs : Name → Bool) → ((p : Name) → differs p ≡ false → t p ≡ new p) →
      stepwise v enumerated t new names touched ≡ stepwise v enumerated t new names (filter differs touched)
  unfolding stepwise
  touched_filter enumerated t new names [] differs k = refl
  touched_filter enumerated t new names (c ∷ cs) differs k =
      elim (differs c) as (λ b. differs c ≡ b → stepwise v enumerated t new names (c ∷ cs) ≡ stepwise v enumerated t new names (cond b (c ∷ filter differs cs) (filter differs cs))) [
        | true ↦ λ b. ap (λ ns. notice_at v enumerated c (fresh v t names) (fresh v (with_new_hit c new t) names) ++ ns) (touched_filter enumerated (with_new_hit c new t) new names cs differs (kept differs c new t k))
        | false ↦ λ b.
            let still = moved_same c new t (k c b) in
            ap (λ u. notice_at v enumerated c (fresh v t names) (fresh v u names) ++ stepwise v enumerated u new names cs) still
            ∙ ap (λ ns. ns ++ stepwise v enumerated t new names cs) (no_notice enumerated c (fresh v t names))
            ∙ touched_filter enumerated t new names cs differs k
      ] refl

  pub touched_told : (enumerated : Bool) (old new : Name → Option H) (names changed touched : List Name) → ((p : Name) → is_among p changed ≡ false → old p ≡ new p) →
      IsAscending changed → IsAscending touched → ((q : Name) → is_among q changed ≡ true → is_among q touched ≡ true) →
      stepwise v enumerated old new names touched ≡ stepwise v enumerated old new names changed
  touched_told enumerated old new names changed touched k a b w =
      touched_filter enumerated old new names touched (λ p. is_among p changed) k ∙ ap (stepwise v enumerated old new names) (changed_of changed touched a b w)
