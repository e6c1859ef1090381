-- The lists with the new hits of the first changed names, made step by step.
use Rattle.std.proofs.Common.{◌≡◌, ℕ, zero, suc, Bool, true, false, ◌||◌, List, [], ◌∷◌, ◌++◌, Option, refl, sym, ap, ◌∙◌, cond, drop}
use Rattle.std.specs.Prelude.{take}
use Rattle.std.specs.Cmp.Lexicographic.{nat_list_eq_equiv}
use Rattle.acap_entries.specs.Orders.{octets_eq}
use Rattle.acap_ordmap.proofs.Logic.{or_turned}
use Rattle.acap_notices.specs.Holding.{holding, holding_after_all}
use Rattle.acap_moves.specs.Hits.{Name, Shape, is_among, fresh, rows}
use Rattle.acap_moves.specs.Notices.{notice_at, hits_between, with_new_hit, notices_from, stepwise, MixedLaw, NoticeListLaw}
use Rattle.acap_moves.proofs.Law.{stepwise_law}

one_more : (q : Name) (changed : List Name) (k : ℕ) (c : Name) (rest : List Name) → drop k changed ≡ c ∷ rest → is_among q (take (suc k) changed) ≡ (octets_eq q c || is_among q (take k changed))
unfolding is_among
one_more q [] zero c rest = λ e. cc
one_more q [] (suc k) c rest = λ e. cc
one_more q (x ∷ xs) zero c rest = λ e. let same : x ≡ c = cc e in ap (λ n. octets_eq q n || false) same
one_more q (x ∷ xs) (suc k) c rest = λ e. ap (λ b. octets_eq q x || b) (one_more q xs k c rest e) ∙ or_turned (octets_eq q x) (octets_eq q c) (is_among q (take k xs))

one_less : (changed : List Name) (k : ℕ) (c : Name) (rest : List Name) → drop k changed ≡ c ∷ rest → drop (suc k) changed ≡ rest
one_less [] zero c rest = λ e. cc
one_less [] (suc k) c rest = λ e. cc
one_less (x ∷ xs) zero c rest = λ e. cc e
one_less (x ∷ xs) (suc k) c rest = λ e. one_less xs k c rest e

module _ {H : Type 0} (old new : Name → Option H) (changed : List Name) where
  next_hit : (k : ℕ) (c : Name) (rest : List Name) → drop k changed ≡ c ∷ rest → (q : Name) → with_new_hit c new (hits_between k changed old new) q ≡ hits_between (suc k) changed old new q
  unfolding with_new_hit
  next_hit k c rest e q =
      elim (octets_eq c q) as (λ b. octets_eq c q ≡ b → cond b (new q) (cond (is_among q (take k changed)) (new q) (old q)) ≡ cond (octets_eq q c || is_among q (take k changed)) (new q) (old q)) [
        | true ↦ λ b. ap (λ t. cond (t || is_among q (take k changed)) (new q) (old q)) (sym (nat_list_eq_equiv.symm q c ∙ b))
        | false ↦ λ b. ap (λ t. cond (t || is_among q (take k changed)) (new q) (old q)) (sym (nat_list_eq_equiv.symm q c ∙ b))
      ] refl
      ∙ ap (λ t. cond t (new q) (old q)) (sym (one_more q changed k c rest e))

  next_hits : (k : ℕ) (c : Name) (rest : List Name) → drop k changed ≡ c ∷ rest → with_new_hit c new (hits_between k changed old new) ≡ hits_between (suc k) changed old new
  next_hits k c rest e = λ i q. next_hit k c rest e q i

  first_hit : (q : Name) → hits_between 0 changed old new q ≡ old q
  unfolding is_among
  first_hit q = elim changed as (λ cs. cond (is_among q (take 0 cs)) (new q) (old q) ≡ old q) [ [] ↦ refl | (c ∷ cs) ↦ refl ]

  first_hits : hits_between 0 changed old new ≡ old
  first_hits = λ i q. first_hit q i

  steps : (v : Shape H) (enumerated : Bool) (names : List Name) (k : ℕ) (rest : List Name) → drop k changed ≡ rest →
      notices_from v k enumerated changed old new names rest ≡ stepwise v enumerated (hits_between k changed old new) new names rest
  unfolding notices_from stepwise
  steps v enumerated names k [] e = refl
  steps v enumerated names k (c ∷ rest) e =
      ap (λ ns. notice_at v enumerated c (fresh v (hits_between k changed old new) names) (fresh v (hits_between (suc k) changed old new) names) ++ ns)
      (steps v enumerated names (suc k) rest (one_less changed k c rest e))
      ∙ ap (λ u. notice_at v enumerated c (fresh v (hits_between k changed old new) names) (fresh v u names) ++ stepwise v enumerated u new names rest) (sym (next_hits k c rest e))

dropped_none : (cs : List Name) → drop 0 cs ≡ cs
dropped_none [] = refl
dropped_none (c ∷ cs) = refl

pub mixed_steps : {H : Type 0} → MixedLaw H
mixed_steps v enumerated old new names changed =
    steps old new changed v enumerated names 0 changed (dropped_none changed)
    ∙ ap (λ u. stepwise v enumerated u new names changed) (first_hits old new changed)

pub notice_list : {H : Type 0} → NoticeListLaw H
notice_list v l enumerated old new names changed d f g k =
    ap (holding_after_all (holding enumerated (rows v (fresh v old names)))) (mixed_steps v enumerated old new names changed)
    ∙ stepwise_law v l enumerated old new names changed d f g k
