-- The front of a text in pieces.
use Rattle.std.proofs.Common.{◌≡◌, ℕ, ◌+◌, List, ◌++◌, take, drop, length, sym, ◌∙◌, ap, take-add}
use Rattle.std.proofs.lemmas.List.{take_at}

-- octets from a place in a text, written over the front of a buffer
pub copied : (at n : ℕ) (text front rest : List ℕ) → front ≡ take n (drop at text) → length front ≡ n
    → take (at + n) text ≡ take at text ++ take n (front ++ rest)
copied at n text front rest p q = take-add at n text ∙ ap (λ ys. take at text ++ ys) (sym p ∙ sym (take_at front rest n q))
