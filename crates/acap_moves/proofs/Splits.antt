-- A list of hits, taken apart at one name.
use Rattle.std.proofs.Common.{◌≡◌, true, false, ◌||◌, List, [], ◌∷◌, Some, None, Option, refl, sym, ap, subst, ◌∙◌, cond}
use Rattle.std.specs.Cmp.Lexicographic.{bytes_decides}
use Rattle.acap_entries.specs.Orders.{octets_eq}
use Rattle.acap_moves.specs.Hits.{Name, Shape, IsLawful, is_among, IsDistinct, put_some, fresh, IsOfNames}
use Rattle.acap_moves.specs.Notices.{with_new_hit}
use Rattle.acap_moves.proofs.Putting.{put_swap}

pub same_name : (p q : Name) → octets_eq p q ≡ true → p ≡ q
same_name p q e = (bytes_decides p q).0 e

pub itself : (p q : Name) → p ≡ q → octets_eq p q ≡ true
itself p q e = (bytes_decides p q).1 e

pub among_first : (p : Name) (ps : List Name) → is_among p (p ∷ ps) ≡ true
unfolding is_among
among_first p ps = rw (itself p p refl) refl

pub among_later : (q p : Name) (ps : List Name) → is_among q ps ≡ true → is_among q (p ∷ ps) ≡ true
unfolding is_among
among_later q p ps m = rw m (elim (octets_eq q p) as (λ b. (b || true) ≡ true) [ true ↦ refl | false ↦ refl ])

pub distinct_first : (q : Name) (ps : List Name) → IsDistinct (q ∷ ps) → is_among q ps ≡ false
unfolding IsDistinct
distinct_first q ps d = d.0

pub distinct_rest : (q : Name) (ps : List Name) → IsDistinct (q ∷ ps) → IsDistinct ps
unfolding IsDistinct
distinct_rest q ps d = d.1

module _ {H : Type 0} where
  -- all hits but that of the name
  unfoldable pub hidden : Name → (Name → Option H) → Name → Option H
  hidden p t q = cond (octets_eq p q) None (t q)

  unfoldable pub if_among : Name → List Name → Option H → Option H
  if_among p ps x = cond (is_among p ps) x None

  if_among_some : (p : Name) (ps : List Name) (x : Option H) (h : H) → if_among p ps x ≡ Some h → x ≡ Some h
  unfolding if_among
  if_among_some p ps x h = elim (is_among p ps) as (λ b. cond b x None ≡ Some h → x ≡ Some h) [ true ↦ λ e. e | false ↦ λ e. cc ]

  if_among_not : (p : Name) (ps : List Name) (x : Option H) → is_among p ps ≡ false → if_among p ps x ≡ None
  unfolding if_among
  if_among_not p ps x e = rw e refl

  if_among_first : (p q : Name) (ps : List Name) (x : Option H) → octets_eq p q ≡ true → if_among p (q ∷ ps) x ≡ x
  unfolding if_among is_among
  if_among_first p q ps x e = rw e refl

  if_among_later : (p q : Name) (ps : List Name) (x : Option H) → octets_eq p q ≡ false → if_among p (q ∷ ps) x ≡ if_among p ps x
  unfolding if_among is_among
  if_among_later p q ps x e = rw e refl

  hidden_own : (p q : Name) (t : Name → Option H) → octets_eq p q ≡ true → hidden p t q ≡ None
  unfolding hidden
  hidden_own p q t e = rw e refl

  hidden_other : (p q : Name) (t : Name → Option H) → octets_eq p q ≡ false → hidden p t q ≡ t q
  unfolding hidden
  hidden_other p q t e = rw e refl

  if_among_none : (p : Name) (x : Option H) → if_among p [] x ≡ None
  unfolding if_among is_among
  if_among_none p x = refl

  pub moved_own : (p : Name) (t u : Name → Option H) → with_new_hit p u t p ≡ u p
  unfolding with_new_hit
  moved_own p t u = rw (itself p p refl) refl

  hidden_moved : (p q : Name) (t u : Name → Option H) → hidden p (with_new_hit p u t) q ≡ hidden p t q
  unfolding with_new_hit hidden
  hidden_moved p q t u = elim (octets_eq p q) as (λ b. cond b None (cond b (u q) (t q)) ≡ cond b None (t q)) [ true ↦ refl | false ↦ refl ]

module _ {H : Type 0} (v : Shape H) where
  -- lists are as their hits
  pub fresh_same : IsLawful v → (t u : Name → Option H) (ps : List Name) → ((q : Name) → is_among q ps ≡ true → t q ≡ u q) → fresh v t ps ≡ fresh v u ps
  unfolding fresh
  fresh_same l t u [] e = refl
  fresh_same l t u (p ∷ ps) e =
      ap (λ o. put_some v o (fresh v t ps)) (e p (among_first p ps))
      ∙ ap (put_some v (u p)) (fresh_same l t u ps (λ q m. e q (among_later q p ps m)))

  pub put_some_swap : IsLawful v → (a b : Option H) (es : List H) → ((x y : H) → a ≡ Some x → b ≡ Some y → v.name x ≡ v.name y → ⊥) → put_some v a (put_some v b es) ≡ put_some v b (put_some v a es)
  unfolding put_some
  put_some_swap l None b es n = refl
  put_some_swap l (Some x) None es n = refl
  put_some_swap l (Some x) (Some y) es n = put_swap v l.order_total x y es (λ e. n x y refl refl (l.order_name x y e))

  put_none : (es : List H) → put_some v None es ≡ es
  unfolding put_some
  put_none es = refl

  fresh_cons : (t : Name → Option H) (p : Name) (ps : List Name) → fresh v t (p ∷ ps) ≡ put_some v (t p) (fresh v t ps)
  unfolding fresh
  fresh_cons t p ps = refl

  fresh_none : (t : Name → Option H) → fresh v t [] ≡ []
  unfolding fresh
  fresh_none t = refl

  -- the list is the one of all others with the name's own hit
  pub split : IsLawful v → (p : Name) (t : Name → Option H) (ps : List Name) → IsDistinct ps → IsOfNames v t → fresh v t ps ≡ put_some v (if_among p ps (t p)) (fresh v (hidden p t) ps)
  split l p t [] d f = fresh_none t ∙ sym (rw (if_among_none, put_none, fresh_none) refl)
  split l p t (q ∷ ps) d f =
      let rest : fresh v t ps ≡ put_some v (if_among p ps (t p)) (fresh v (hidden p t) ps) = split l p t ps (distinct_rest q ps d) f in
      elim (octets_eq p q) as (λ b. octets_eq p q ≡ b → fresh v t (q ∷ ps) ≡ put_some v (if_among p (q ∷ ps) (t p)) (fresh v (hidden p t) (q ∷ ps))) [
        | true ↦ λ e.
            let same : p ≡ q = same_name p q e in
            let out : is_among p ps ≡ false = subst (λ r. is_among r ps ≡ false) (sym same) (distinct_first q ps d) in
            fresh_cons t q ps ∙ ap (put_some v (t q)) (rest ∙ ap (λ o. put_some v o (fresh v (hidden p t) ps)) (if_among_not p ps (t p) out) ∙ put_none _)
            ∙ ap (λ r. put_some v (t r) (fresh v (hidden p t) ps)) (sym same)
            ∙ sym (ap (λ o. put_some v o (fresh v (hidden p t) (q ∷ ps))) (if_among_first p q ps (t p) e)
            ∙ ap (put_some v (t p)) (fresh_cons (hidden p t) q ps ∙ ap (λ o. put_some v o (fresh v (hidden p t) ps)) (hidden_own p q t e) ∙ put_none _))
        | false ↦ λ e.
            fresh_cons t q ps ∙ ap (put_some v (t q)) rest
            ∙ put_some_swap l (t q) (if_among p ps (t p)) (fresh v (hidden p t) ps) (λ x y ex ey exy.
            let at_q : v.name x ≡ q = f.of_name q x ex in
            let at_p : v.name y ≡ p = f.of_name p y (if_among_some p ps (t p) y ey) in
            let tied : octets_eq p q ≡ true = itself p q (sym at_p ∙ sym exy ∙ at_q) in
            cc)
            ∙ sym (ap (λ o. put_some v o (fresh v (hidden p t) (q ∷ ps))) (if_among_later p q ps (t p) e)
            ∙ ap (put_some v (if_among p ps (t p))) (fresh_cons (hidden p t) q ps ∙ ap (λ o. put_some v o (fresh v (hidden p t) ps)) (hidden_other p q t e)))
      ] refl

  pub moved_of : IsLawful v → (p : Name) (t u : Name → Option H) → IsOfNames v t → IsOfNames v u → IsOfNames v (with_new_hit p u t)
  unfolding with_new_hit
  moved_of l p t u f g = record { of_name = λ q h. elim (octets_eq p q) as (λ b. cond b (u q) (t q) ≡ Some h → v.name h ≡ q) [ true ↦ λ e. g.of_name q h e | false ↦ λ e. f.of_name q h e ] }

  -- and with another hit at the name, of the same others
  pub split_moved : IsLawful v → (p : Name) (t u : Name → Option H) (ps : List Name) → IsDistinct ps → IsOfNames v t → IsOfNames v u → fresh v (with_new_hit p u t) ps ≡ put_some v (if_among p ps (u p)) (fresh v (hidden p t) ps)
  split_moved l p t u ps d f g =
      split l p (with_new_hit p u t) ps d (moved_of l p t u f g)
      ∙ ap (λ o. put_some v (if_among p ps o) (fresh v (hidden p (with_new_hit p u t)) ps)) (moved_own p t u)
      ∙ ap (put_some v (if_among p ps (u p))) (fresh_same l _ _ ps (λ q m. hidden_moved p q t u))
