-- Notices of one change, applied one after the other.
use Rattle.std.proofs.Common.{◌≡◌, Bool, true, false, List, [], ◌∷◌, ◌++◌, Some, None, Option, refl, ap, ◌∙◌, cond}
use Rattle.std.specs.Option.{option_and_then}
use Rattle.std.specs.Cmp.Lexicographic.{nat_list_eq_equiv}
use Rattle.acap_entries.specs.Orders.{octets_eq}
use Rattle.acap_notices.specs.declared.notice.Notice.{Notice}
use Rattle.acap_notices.specs.Holding.{Holding, holding, holding_after_all}
use Rattle.acap_notices.proofs.RuleLemmas.{joined}
use Rattle.acap_moves.specs.Hits.{Name, Shape, IsLawful, is_among, IsDistinct, put_some, fresh, rows, IsOfNames}
use Rattle.acap_moves.specs.Notices.{notice_at, with_new_hit, stepwise, Covers}
use Rattle.acap_moves.proofs.Splits.{hidden, if_among, split, split_moved, moved_of, fresh_same}
use Rattle.acap_moves.proofs.ListSteps.{Absent, absent_put, listed_step}
use Rattle.acap_moves.proofs.MapSteps.{mapped_step}

-- notices after others
pub applied_then : (held mid : Holding) (end : Option Holding) (ms ns : List Notice) → holding_after_all held ms ≡ Some mid → holding_after_all mid ns ≡ end → holding_after_all held (ms ++ ns) ≡ end
applied_then held mid end ms ns p q = joined held ms ns ∙ ap (option_and_then (λ r. holding_after_all r ns)) p ∙ q

module _ {H : Type 0} (v : Shape H) where
  absent_some : (p : Name) (x : Option H) (es : List H) → ((h : H) → x ≡ Some h → octets_eq p (v.name h) ≡ false) → Absent v p es → Absent v p (put_some v x es)
  unfolding put_some
  absent_some p None es n a = a
  absent_some p (Some h) es n a = absent_put v p h es (n h refl) a

  hidden_apart : (p q : Name) (t : Name → Option H) → IsOfNames v t → (h : H) → hidden p t q ≡ Some h → octets_eq p (v.name h) ≡ false
  unfolding hidden
  hidden_apart p q t f h = elim (octets_eq p q) as (λ b. octets_eq p q ≡ b → cond b None (t q) ≡ Some h → octets_eq p (v.name h) ≡ false) [
    | true ↦ λ b e. cc
    | false ↦ λ b e. rw (f.of_name q h e) b
  ] refl

  pub absent_fresh : (p : Name) (t : Name → Option H) (ps : List Name) → IsOfNames v t → Absent v p (fresh v (hidden p t) ps)
  unfolding fresh Absent
  absent_fresh p t [] f = tt
  absent_fresh p t (q ∷ ps) f = absent_some p (hidden p t q) (fresh v (hidden p t) ps) (hidden_apart p q t f) (absent_fresh p t ps f)

  pub of_name_among : (p : Name) (ps : List Name) (t : Name → Option H) → IsOfNames v t → (h : H) → if_among p ps (t p) ≡ Some h → v.name h ≡ p
  unfolding if_among
  of_name_among p ps t f h = elim (is_among p ps) as (λ b. cond b (t p) None ≡ Some h → v.name h ≡ p) [ true ↦ λ e. f.of_name p h e | false ↦ λ e. cc ]

module _ {H : Type 0} (v : Shape H) (l : IsLawful v) where
  either_step : (enumerated : Bool) (p : Name) (a b : Option H) (es : List H) → Absent v p es → ((h : H) → a ≡ Some h → v.name h ≡ p) → ((h : H) → b ≡ Some h → v.name h ≡ p) →
      holding_after_all (holding enumerated (rows v (put_some v a es))) (notice_at v enumerated p (put_some v a es) (put_some v b es)) ≡ Some (holding enumerated (rows v (put_some v b es)))
  either_step true = listed_step v l
  either_step false = mapped_step v l

  -- one name alone
  one_name : (enumerated : Bool) (old new : Name → Option H) (ps : List Name) (c : Name) → IsDistinct ps → IsOfNames v old → IsOfNames v new →
      holding_after_all (holding enumerated (rows v (fresh v old ps))) (notice_at v enumerated c (fresh v old ps) (fresh v (with_new_hit c new old) ps)) ≡ Some (holding enumerated (rows v (fresh v (with_new_hit c new old) ps)))
  one_name enumerated old new ps c d f g =
      rw (split v l c old ps d f, split_moved v l c old new ps d f g)
      (either_step enumerated c (if_among c ps (old c)) (if_among c ps (new c)) (fresh v (hidden c old) ps) (absent_fresh v c old ps f) (of_name_among v c ps old f) (of_name_among v c ps new g))

  pub covers_none : (old new : Name → Option H) (ps : List Name) → Covers old new ps [] → fresh v old ps ≡ fresh v new ps
  unfolding is_among
  covers_none old new ps k = fresh_same v l old new ps (λ q m. k.same_elsewhere q m refl)

  pub covers_rest : (old new : Name → Option H) (ps : List Name) (c : Name) (cs : List Name) → Covers old new ps (c ∷ cs) → Covers (with_new_hit c new old) new ps cs
  unfolding is_among with_new_hit
  covers_rest old new ps c cs k = record {
    same_elsewhere = λ q m n.
        elim (octets_eq c q) as (λ b. octets_eq c q ≡ b → cond b (new q) (old q) ≡ new q) [
          | true ↦ λ b. refl
          | false ↦ λ b. k.same_elsewhere q m (rw (nat_list_eq_equiv.symm q c ∙ b, n) refl)
        ] refl;
  }

  pub stepwise_law : (enumerated : Bool) (old new : Name → Option H) (ps cs : List Name) → IsDistinct ps → IsOfNames v old → IsOfNames v new → Covers old new ps cs →
      holding_after_all (holding enumerated (rows v (fresh v old ps))) (stepwise v enumerated old new ps cs) ≡ Some (holding enumerated (rows v (fresh v new ps)))
  unfolding stepwise
  stepwise_law enumerated old new ps [] d f g k = ap (λ es. Some (holding enumerated (rows v es))) (covers_none old new ps k)
  stepwise_law enumerated old new ps (c ∷ cs) d f g k =
      applied_then _ _ _ (notice_at v enumerated c (fresh v old ps) (fresh v (with_new_hit c new old) ps)) (stepwise v enumerated (with_new_hit c new old) new ps cs)
      (one_name enumerated old new ps c d f g) (stepwise_law enumerated (with_new_hit c new old) new ps cs d (moved_of v l c old new f g) g (covers_rest old new ps c cs k))
