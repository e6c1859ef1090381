-- Texts cut at an octet.
use Rattle.std.proofs.Common.{◌≡◌, ℕ, suc, ◌+◌, ◌<◌, ◌≤◌, Bool, true, false, not, cond, List, [], ◌∷◌, length, take, drop, Some, None, refl, ap, arith}
use Rattle.std.proofs.lemmas.Bool.{ltb-true, ltb-false}
use Rattle.std.specs.Prelude.{nat_lt, ◌==◌}
use Rattle.std.specs.List.{slice_split, onto_first, position, position_or_len}
use Rattle.std.proofs.lemmas.List.Splits.{slice_split_first}

module _ (p : ℕ → Bool) where
  parts_first : (xs : List ℕ) → position_or_len p xs < length xs → slice_split p xs ≡ take (position_or_len p xs) xs ∷ slice_split p (drop (position_or_len p xs + 1) xs)
  parts_first xs lt = slice_split_first p xs 0 lt

  one_part : (xs : List ℕ) → length xs ≤ position_or_len p xs → slice_split p xs ≡ xs ∷ []
  one_part [] = λ le. refl
  one_part (x ∷ xs) = elim (p x) as (λ b. suc (length xs) ≤ cond (not b) (1 + position_or_len p xs) 0 → cond b ([] ∷ slice_split p xs) (onto_first x (slice_split p xs)) ≡ (x ∷ xs) ∷ []) [
    | true ↦ λ le. absurd (omega arith)
    | false ↦ λ le. ap (onto_first x) (one_part xs (omega arith))
  ]

  at_first : (xs : List ℕ) (at : ℕ) → position p xs ≡ Some at → slice_split p xs ≡ take at xs ∷ slice_split p (drop (at + 1) xs)
  at_first xs at = elim (nat_lt (position_or_len p xs) (length xs)) as (λ b. nat_lt (position_or_len p xs) (length xs) ≡ b → cond b (Some (position_or_len p xs)) None ≡ Some at → slice_split p xs ≡ take at xs ∷ slice_split p (drop (at + 1) xs)) [
    | true ↦ λ lt e.
        let same : position_or_len p xs ≡ at = cc in
        rw same at (parts_first xs (ltb-true _ _ lt))
    | false ↦ λ lt e. cc
  ] refl

  none_at : (xs : List ℕ) → position p xs ≡ None → slice_split p xs ≡ xs ∷ []
  none_at xs = elim (nat_lt (position_or_len p xs) (length xs)) as (λ b. nat_lt (position_or_len p xs) (length xs) ≡ b → cond b (Some (position_or_len p xs)) None ≡ None → slice_split p xs ≡ xs ∷ []) [
    | true ↦ λ lt e. cc
    | false ↦ λ lt e. one_part xs (ltb-false _ _ lt)
  ] refl

-- what stands before the first such octet, and what after it
pub parts_at : (octet : ℕ) (xs : List ℕ) (at : ℕ) → position (λ x. x == octet) xs ≡ Some at → slice_split (λ x. x == octet) xs ≡ take at xs ∷ slice_split (λ x. x == octet) (drop (at + 1) xs)
parts_at octet = at_first (λ x. x == octet)

-- and the whole where there is none
pub parts_none : (octet : ℕ) (xs : List ℕ) → position (λ x. x == octet) xs ≡ None → slice_split (λ x. x == octet) xs ≡ xs ∷ []
parts_none octet = none_at (λ x. x == octet)
