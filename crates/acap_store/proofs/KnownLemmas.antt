-- Rights that are known: those at a place, and what one more makes of them.
use Rattle.std.proofs.Common.{◌≡◌, ℕ, zero, suc, ◌<◌, ◌≤◌, List, [], ◌∷◌, length, get_or, refl, sym, subst, ◌∙◌, arith}
use Rattle.std.specs.List.{insert}
use Rattle.acap_store.specs.Asking.{Asking, AreSharedIn}
use Rattle.acap_store.specs.declared.known.Known.{Known}
use Rattle.acap_store.specs.Known.{AreKnown, AreKnownAt, AreOf}

at_place : (a : Asking) (known : List Known) (i : ℕ) (k : Known) → AreKnown a known → i < length known → k ≡ get_or known i k → AreSharedIn a k.dataset.now k.shared
at_place a [] i k h lt is = absurd (omega arith)
at_place a (x ∷ xs) zero k h lt is = subst (λ k. AreSharedIn a k.dataset.now k.shared) (sym is) h.0
at_place a (x ∷ xs) (suc i) k h lt is = at_place a xs i k h.1 (omega arith) is

-- those that stand there already
pub known_there : (a : Asking) (known : List Known) (i : ℕ) (dataset : List ℕ) → AreKnown a known → i < length known → AreOf known i dataset → AreKnownAt a known i dataset
known_there a known i dataset h lt of k is = subst (λ d. AreSharedIn a d k.shared) (of k is) (at_place a known i k h lt is)

-- those that are put there
pub known_insert : (a : Asking) (known : List Known) (i : ℕ) (x : Known) → AreKnown a known → AreSharedIn a x.dataset.now x.shared → AreKnown a (insert known i x)
known_insert a known zero x h new = (new, h)
known_insert a [] (suc i) x h new = (new, tt)
known_insert a (y ∷ ys) (suc i) x h new = (h.0, known_insert a ys i x h.1 new)

put_there : {A : Type 0} (xs : List A) (i : ℕ) (x d : A) → i ≤ length xs → get_or (insert xs i x) i d ≡ x
put_there xs zero x d h = refl
put_there [] (suc i) x d h = absurd (omega arith)
put_there (y ∷ ys) (suc i) x d h = put_there ys i x d (omega arith)

pub known_new : (a : Asking) (known : List Known) (i : ℕ) (x : Known) → i ≤ length known → AreSharedIn a x.dataset.now x.shared → AreKnownAt a (insert known i x) i x.dataset.now
known_new a known i x within new k is = subst (λ k. AreSharedIn a x.dataset.now k.shared) (sym (is ∙ put_there known i x k within)) new
