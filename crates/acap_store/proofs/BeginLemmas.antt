-- Texts that begin with a text of several parts.
use Rattle.std.proofs.Common.{◌≡◌, ℕ, Bool, true, false, ◌&&◌, List, [], ◌∷◌, ◌++◌, length, take, drop, refl, ap, ◌∙◌, sym}
use Rattle.std.specs.Prelude.{◌-◌, nat_eq}
use Rattle.std.proofs.lemmas.List.{take_rest}
use Rattle.std.specs.List.{starts_with}

both : (a b c : Bool) → (a && b) && c ≡ a && (b && c)
both true b c = refl
both false b c = refl

begins_by : (text a b : List ℕ) → starts_with nat_eq text (a ++ b) ≡ (starts_with nat_eq text a && starts_with nat_eq (drop (length a) text) b)
begins_by text [] b = refl
begins_by [] (x ∷ a) b = refl
begins_by (y ∷ text) (x ∷ a) b = ap (λ t. nat_eq x y && t) (begins_by text a b) ∙ sym (both (nat_eq x y) _ _)

-- the rest being what a slice has from there on
pub begins_behind : (text a b : List ℕ) → starts_with nat_eq text a ≡ true → starts_with nat_eq (take (length text - length a) (drop (length a) text)) b ≡ starts_with nat_eq text (a ++ b)
begins_behind text a b e = ap (λ rest. starts_with nat_eq rest b) (take_rest text (length a)) ∙ sym (begins_by text a b ∙ ap (λ t. t && starts_with nat_eq (drop (length a) text) b) e)

pub begins_otherwise : (text a b : List ℕ) → starts_with nat_eq text a ≡ false → false ≡ starts_with nat_eq text (a ++ b)
begins_otherwise text a b e = sym (begins_by text a b ∙ ap (λ t. t && starts_with nat_eq (drop (length a) text) b) e)
