-- The number that digits stand for, digit by digit.
use Rattle.std.proofs.Common.{◌≡◌, ℕ, suc, ◌+◌, ◌-◌, ◌*◌, ◌<◌, ◌≤◌, true, false, List, [], ◌∷◌, length, drop, Some, None, refl, sym, ap, ◌∙◌, arith, leb, slice_index, drop-cons}
use Rattle.std.proofs.lemmas.List.{drop_all}
use Rattle.std.specs.Prelude.{fold}
use Rattle.std.specs.List.{list_all}
use Rattle.std.proofs.lemmas.Bool.{le-leb, and_right}
use Rattle.acap_lexer.specs.Octets.{is_digit}
use Rattle.acap_lexer.proofs.Counting.{number_grows}
use Rattle.acap_grammar.specs.Lines.{number_of, value_of}

-- the number of the digits that follow those that stand for a number
abbrev pub number_from : ℕ → List ℕ → ℕ
number_from count rest = fold (λ n d. 10 * n + (d - 48)) count rest

pub record IsSoFar (digits : List ℕ) (most count : ℕ) (rest : List ℕ) : Type 0 where
  pub number : number_from count rest ≡ value_of digits
  pub fits : count ≤ most

pub number_is : (digits : List ℕ) → list_all is_digit digits ≡ true → 0 < length digits → number_of digits ≡ Some (value_of digits)
unfolding number_of
number_is digits all some =
    let long : leb 1 (length digits) ≡ true = le-leb _ _ (omega arith) in
    rw (long, all) refl

pub no_digits : (digits : List ℕ) → list_all is_digit digits ≡ false → number_of digits ≡ None
unfolding number_of
no_digits digits none = rw (and_right (leb 1 (length digits)) _ none) refl

nothing : number_of [] ≡ None
unfolding number_of
nothing = refl

-- a digit at which the number passes the greatest
pub too_large : (digits : List ℕ) (most count i : ℕ) → i < length digits → IsSoFar digits most count (drop i digits) → most < 10 * count + (slice_index digits i - 48) → most < value_of digits
too_large digits most count i inside so_far large =
    let rest = drop (suc i) digits in
    let step : number_from count (drop i digits) ≡ number_from (10 * count + (slice_index digits i - 48)) rest = ap (number_from count) (drop-cons digits i 0 inside) in
    let grows = number_grows rest (10 * count + (slice_index digits i - 48)) in
    omega (arith, grows, sym step ∙ so_far.number)

pub too_few : (digits : List ℕ) → length digits ≡ 0 → number_of digits ≡ None
too_few [] none = nothing
too_few (d ∷ digits) none = absurd (omega arith)

pub ends : (digits : List ℕ) (most count i : ℕ) → length digits ≤ i → IsSoFar digits most count (drop i digits) → (count ≡ value_of digits) × (count ≤ most)
ends digits most count i past so_far = (sym (ap (number_from count) (drop_all i digits past)) ∙ so_far.number, so_far.fits)

pub counts : (digits : List ℕ) (most n : ℕ) → list_all is_digit digits ≡ true → 0 < length digits → n ≡ value_of digits → n ≤ most → (number_of digits ≡ Some n) × (n ≤ most)
counts digits most n all some is fits = (rw is (number_is digits all some), fits)

pub over : (digits : List ℕ) (most : ℕ) → list_all is_digit digits ≡ true → 0 < length digits → most < value_of digits → (n : ℕ) × (number_of digits ≡ Some n) × (most < n)
over digits most all some large = (value_of digits, number_is digits all some, large)
