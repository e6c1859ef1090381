-- The entry of a key, and the value that is found at it.
use Rattle.std.proofs.Common.{◌≡◌, true, false, cond, List, [], ◌∷◌, Some, refl, sym, ap, ◌∙◌}
use Rattle.std.specs.declared.cmp.Ordering.{Ordering}
use Rattle.std.specs.Ordering.{eq_by_cmp}
use Rattle.std.specs.FinMap.{IsAntisymmetric}
use Rattle.std.specs.Option.{option_map}
use Rattle.acap_ordmap.specs.Sorted.{found, entry_of}
use Rattle.acap_ordmap.proofs.Logic.{Equal_from_is_eq}

module _ {K X : Type 0} (R : K → K → Ordering) where
  pub entry_found : (k : K) (es : List (K × X)) → option_map (λ (e : K × X). e.1) (entry_of R k es) ≡ found R k es
  unfolding entry_of found
  entry_found k [] = refl
  entry_found k (e ∷ es) =
      elim (eq_by_cmp R k e.0) as (λ b. option_map (λ (e : K × X). e.1) (cond b (Some e) (entry_of R k es)) ≡ cond b (Some e.1) (found R k es)) [
        | true ↦ refl
        | false ↦ entry_found k es
      ]

  pub entry_key : IsAntisymmetric R → (k : K) (es : List (K × X)) (e : K × X) → entry_of R k es ≡ Some e → e.0 ≡ k
  unfolding entry_of
  entry_key same k [] e h = absurd (cc (h))
  entry_key same k (x ∷ es) e h =
      elim (eq_by_cmp R k x.0) as (λ b. eq_by_cmp R k x.0 ≡ b → cond b (Some x) (entry_of R k es) ≡ Some e → e.0 ≡ k) [
        | true ↦ λ t i. let there : x ≡ e = cc (i) in ap (λ (e : K × X). e.0) (sym there) ∙ sym (same k x.0 (Equal_from_is_eq _ t))
        | false ↦ λ t i. entry_key same k es e i
      ] refl h
