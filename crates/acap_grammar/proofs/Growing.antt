-- What is appended keeps what stood before.
use Rattle.std.proofs.Common.{◌≡◌, ℕ, List, [], ◌∷◌, ◌++◌, length, take, drop, refl, ap, sym, ◌∙◌, subst, append_assoc}
use Rattle.std.proofs.lemmas.List.{take-append-drop}
use Rattle.acap_lexer.specs.Printing.{Grows}

take-longer : (old front new : List ℕ) → take (length (old ++ front)) new ≡ old ++ front → take (length old) new ≡ old
take-longer [] front new e = refl
take-longer (x ∷ old) front [] e = absurd cc
take-longer (x ∷ old) front (y ∷ new) e =
    let a : y ≡ x = cc in
    let b : take (length (old ++ front)) new ≡ old ++ front = cc in
    rw (a, take-longer old front new b) refl

-- after a loop's turns and a separator
pub grows_after : (old front turns pushed new : List ℕ) (x : ℕ) → turns ≡ old ++ front → pushed ≡ turns ++ x ∷ [] → Grows pushed new → Grows old new
grows_after old front turns pushed new x t p g =
    let all : pushed ≡ old ++ (front ++ x ∷ []) = p ∙ ap (λ (u : List ℕ). u ++ x ∷ []) t ∙ append_assoc old front (x ∷ []) in
    take-longer old (front ++ x ∷ []) new (subst (λ (u : List ℕ). Grows u new) all g)

-- after a loop's turns
pub grows_next : (old front turns new : List ℕ) → turns ≡ old ++ front → Grows turns new → Grows old new
grows_next old front turns new t g = take-longer old front new (subst (λ (u : List ℕ). Grows u new) t g)

-- one after the other
pub grows_on : (old turns new : List ℕ) → Grows old turns → Grows turns new → Grows old new
grows_on old turns new g h =
    let rest : List ℕ = drop (length old) turns in
    grows_next old rest turns new (sym (take-append-drop (length old) turns) ∙ ap (λ (u : List ℕ). u ++ rest) g) h
