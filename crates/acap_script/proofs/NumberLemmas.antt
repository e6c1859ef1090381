-- The number that digits write, digit by digit.
use Rattle.std.proofs.Common.{◌≡◌, ℕ, suc, ◌+◌, ◌-◌, ◌*◌, ◌<◌, ◌≤◌, false, List, [], ◌∷◌, length, drop, None, refl, sym, ap, ◌∙◌, arith, leb, slice_index, drop-cons}
use Rattle.std.specs.Prelude.{fold}
use Rattle.std.proofs.lemmas.Bool.{lt-leb}
use Rattle.acap_script.specs.Lines.{number_of, at_most}

-- the number of digits after those that write a number
abbrev pub number_from : ℕ → List ℕ → ℕ
number_from number rest = fold (λ n d. 10 * n + (d - 48)) number rest

pub record IsSoFar (digits : List ℕ) (most number : ℕ) (rest : List ℕ) : Type 0 where
  pub number_is : number_from number rest ≡ number_of digits
  pub fits : number ≤ most

-- more digits give no smaller number
pub number_grows : (rest : List ℕ) (number : ℕ) → number ≤ number_from number rest
number_grows [] number = omega arith
number_grows (d ∷ rest) number = omega (arith, number_grows rest (10 * number + (d - 48)))

-- a digit at which the number passes the greatest
pub too_large : (digits : List ℕ) (most number i : ℕ) → i < length digits → most < 10 * number + (slice_index digits i - 48)
    → number_from number (drop i digits) ≡ number_of digits → None ≡ at_most most (number_of digits)
too_large digits most number i inside large is =
    let rest = drop (suc i) digits in
    let step : number_from number (drop i digits) ≡ number_from (10 * number + (slice_index digits i - 48)) rest = ap (number_from number) (drop-cons digits i 0 inside) in
    let grows = number_grows rest (10 * number + (slice_index digits i - 48)) in
    let total : number_from (10 * number + (slice_index digits i - 48)) rest ≡ number_of digits = sym step ∙ is in
    let over : leb (number_of digits) most ≡ false = lt-leb _ _ (omega (arith, large, grows, total)) in
    rw over refl
