-- Equality that is exact: it holds of equal values and of no others.
use Rattle.std.proofs.Common.{◌≡◌, Bool, true, refl, ap, subst}
use Rattle.std.specs.Prelude.{Option, Some, None}
use Rattle.std.specs.Bool.{Decides}
use Rattle.std.specs.Cmp.{IsEquivalence}
use Rattle.std.specs.Option.{option_eq}

-- an equivalence is exact that holds of no others
pub exact_of : {A : Type 0} {E : A → A → Bool} → IsEquivalence E → ((a b : A) → E a b ≡ true → a ≡ b) → (a b : A) → Decides (E a b) (a ≡ b)
exact_of {A} {E} laws same a b = (same a b, λ e. subst (λ x. E a x ≡ true) e (laws.refl a))

pub option_exact : {A : Type 0} {E : A → A → Bool} → ((a b : A) → Decides (E a b) (a ≡ b)) → (a b : Option A) → Decides (option_eq E a b) (a ≡ b)
option_exact h None None = (λ e. refl, λ e. refl)
option_exact h None (Some y) = (λ e. cc, λ e. cc)
option_exact h (Some x) None = (λ e. cc, λ e. cc)
option_exact h (Some x) (Some y) = (λ e. ap Some ((h x y).0 e), λ e. (h x y).1 (cc))
