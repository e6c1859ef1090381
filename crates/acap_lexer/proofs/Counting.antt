-- The number that digits stand for, digit by digit.
use Rattle.std.proofs.Common.{◌≡◌, ℕ, suc, ◌+◌, ◌-◌, ◌*◌, ◌<◌, ◌≤◌, false, List, [], ◌∷◌, length, drop, None, refl, sym, ap, ◌∙◌, arith, leb, slice_index, drop-cons}
use Rattle.std.specs.Prelude.{fold, ◌&&◌}
use Rattle.std.proofs.lemmas.Bool.{lt-leb, and_right}
use Rattle.acap_lexer.specs.Reading.{number_of, is_count, count_of}

-- the number of digits after those that stand for a number
abbrev pub number_from : ℕ → List ℕ → ℕ
number_from count rest = fold (λ n d. 10 * n + (d - 48)) count rest

pub record IsSoFar (digits : List ℕ) (count : ℕ) (rest : List ℕ) : Type 0 where
  pub number : number_from count rest ≡ number_of digits
  pub fits : count ≤ 4294967295

-- more digits give no smaller number
pub number_grows : (rest : List ℕ) (count : ℕ) → count ≤ number_from count rest
number_grows [] count = omega arith
number_grows (d ∷ rest) count = omega (arith, number_grows rest (10 * count + (d - 48)))

not_count : (digits : List ℕ) → 4294967295 < number_of digits → is_count digits ≡ false
unfolding is_count
not_count digits large =
    let over : leb (number_of digits) 4294967295 ≡ false = lt-leb _ _ large in
    and_right (leb 1 (length digits) && leb (length digits) 10) _ over

-- a digit at which the number passes the greatest count
pub too_large : (digits : List ℕ) (count i : ℕ) → i < length digits → 4294967295 < 10 * count + (slice_index digits i - 48)
    → number_from count (drop i digits) ≡ number_of digits → None ≡ count_of digits
unfolding count_of
too_large digits count i inside large number =
    let rest = drop (suc i) digits in
    let step : number_from count (drop i digits) ≡ number_from (10 * count + (slice_index digits i - 48)) rest = ap (number_from count) (drop-cons digits i 0 inside) in
    let grows = number_grows rest (10 * count + (slice_index digits i - 48)) in
    let total : number_from (10 * count + (slice_index digits i - 48)) rest ≡ number_of digits = sym step ∙ number in
    rw (not_count digits (omega (arith, grows, total))) refl
