-- A fresh list doesn't depend on the names beyond those that have a hit.
use Rattle.std.proofs.Common.{◌≡◌, true, false, List, [], ◌∷◌, Some, None, Option, refl, sym, ap, subst, ◌∙◌, cond}
use Rattle.std.specs.Cmp.Lexicographic.{nat_list_eq_equiv}
use Rattle.acap_entries.specs.Orders.{octets_eq}
use Rattle.acap_moves.specs.Hits.{Name, Shape, IsLawful, is_among, IsDistinct, put_some, fresh, IsOfNames, Supports}
use Rattle.acap_moves.proofs.Splits.{hidden, if_among, split, fresh_same, distinct_first, distinct_rest, same_name}

module _ {H : Type 0} (v : Shape H) (l : IsLawful v) where
  no_hits : (t : Name → Option H) (ps : List Name) → ((p : Name) → t p ≡ None) → fresh v t ps ≡ []
  unfolding fresh put_some
  no_hits t [] n = refl
  no_hits t (p ∷ ps) n = rw (n p) (no_hits t ps n)

  -- where all hits are among the names, being among them or not is the same
  pub among_or_none : (p : Name) (t : Name → Option H) (ps : List Name) → Supports t ps → if_among p ps (t p) ≡ t p
  unfolding if_among
  among_or_none p t ps s = elim (is_among p ps) as (λ b. is_among p ps ≡ b → cond b (t p) None ≡ t p) [ true ↦ λ e. refl | false ↦ λ e. sym (s.none_elsewhere p e) ] refl

  hidden_supports_same : (p : Name) (t : Name → Option H) (qs : List Name) → Supports t qs → Supports (hidden p t) qs
  unfolding hidden
  hidden_supports_same p t qs s = record { none_elsewhere = λ q n. elim (octets_eq p q) as (λ b. cond b None (t q) ≡ None) [ true ↦ refl | false ↦ s.none_elsewhere q n ] }

  hidden_supports : (p : Name) (t : Name → Option H) (ps : List Name) → Supports t (p ∷ ps) → Supports (hidden p t) ps
  unfolding hidden is_among
  hidden_supports p t ps s = record {
    none_elsewhere = λ q n.
        elim (octets_eq p q) as (λ b. octets_eq p q ≡ b → cond b None (t q) ≡ None) [
          | true ↦ λ e. refl
          | false ↦ λ e. s.none_elsewhere q (rw (nat_list_eq_equiv.symm q p ∙ e, n) refl)
        ] refl;
  }

  hidden_of_names : (p : Name) (t : Name → Option H) → IsOfNames v t → IsOfNames v (hidden p t)
  unfolding hidden
  hidden_of_names p t f = record { of_name = λ q h. elim (octets_eq p q) as (λ b. cond b None (t q) ≡ Some h → v.name h ≡ q) [ true ↦ λ e. cc | false ↦ λ e. f.of_name q h e ] }

  other : (p : Name) (t : Name → Option H) (ps : List Name) → is_among p ps ≡ false → (q : Name) → is_among q ps ≡ true → t q ≡ hidden p t q
  unfolding hidden
  other p t ps n q m = elim (octets_eq p q) as (λ b. octets_eq p q ≡ b → t q ≡ cond b None (t q)) [
    | true ↦ λ e. let same : p ≡ q = same_name p q e in let in_it : is_among p ps ≡ true = subst (λ r. is_among r ps ≡ true) (sym same) m in cc
    | false ↦ λ e. refl
  ] refl

  pub hidden_absent : (p : Name) (t : Name → Option H) (ps : List Name) → is_among p ps ≡ false → fresh v t ps ≡ fresh v (hidden p t) ps
  hidden_absent p t ps n = fresh_same v l t (hidden p t) ps (λ q m. other p t ps n q m)

  cons : (t : Name → Option H) (p : Name) (ps : List Name) → fresh v t (p ∷ ps) ≡ put_some v (t p) (fresh v t ps)
  unfolding fresh
  cons t p ps = refl

  none_left : (t : Name → Option H) (p : Name) → Supports t [] → t p ≡ None
  unfolding is_among
  none_left t p s = s.none_elsewhere p refl

  fresh_none : (t : Name → Option H) → fresh v t [] ≡ []
  unfolding fresh
  fresh_none t = refl

  pub same_domain : (t : Name → Option H) (ps qs : List Name) → IsDistinct ps → IsDistinct qs → IsOfNames v t → Supports t ps → Supports t qs → fresh v t ps ≡ fresh v t qs
  same_domain t [] qs d e f s r = fresh_none t ∙ sym (no_hits t qs (λ p. none_left t p s))
  same_domain t (p ∷ ps) qs d e f s r =
      cons t p ps
      ∙ ap (put_some v (t p)) (hidden_absent p t ps (distinct_first p ps d)
      ∙ same_domain (hidden p t) ps qs (distinct_rest p ps d) e (hidden_of_names p t f) (hidden_supports p t ps s) (hidden_supports_same p t qs r))
      ∙ ap (λ o. put_some v o (fresh v (hidden p t) qs)) (sym (among_or_none p t qs r))
      ∙ sym (split v l p t qs e f)
