-- Lists: a filter and what is put in its place, copies, and equality.
use Rattle.std.proofs.Common.{◌≡◌, suc, ◌+◌, ◌≤◌, Bool, true, false, not, cond, List, [], ◌∷◌, ◌++◌, length, take, drop, Some, None, refl, ap, arith}
use Rattle.std.proofs.lemmas.Bool.{ltb-false}
use Rattle.std.proofs.lemmas.List.Sums.{prefix_len-le-length}
use Rattle.std.specs.Prelude.{nat_lt}
use Rattle.std.specs.List.{filter, position, position_or_len, insert}
use Rattle.std.specs.Option.{unwrap_or}

module _ {X : Type 0} (test : X → Bool) where
  -- the first place that passes, or the length where none does
  pub place_is : (xs : List X) → unwrap_or (position test xs) (length xs) ≡ position_or_len test xs
  place_is xs = elim (nat_lt (position_or_len test xs) (length xs)) as (λ b. nat_lt (position_or_len test xs) (length xs) ≡ b → unwrap_or (cond b (Some (position_or_len test xs)) None) (length xs) ≡ position_or_len test xs) [
    | true ↦ λ h. refl
    | false ↦ λ h. let above : length xs ≤ position_or_len test xs = ltb-false _ _ h in let within = prefix_len-le-length (λ x. not (test x)) xs in omega arith
  ] refl

  abbrev others : List X → List X
  others xs = filter (λ x. not (test x)) xs

  -- before the first that passes nothing is taken out
  front_stays : (xs : List X) → take (position_or_len test xs) (others xs) ≡ take (position_or_len test xs) xs
  front_stays [] = refl
  front_stays (x ∷ xs) = elim (test x) as (λ b. take (cond (not b) (1 + position_or_len test xs) 0) (cond (not b) (x ∷ others xs) (others xs)) ≡ take (cond (not b) (1 + position_or_len test xs) 0) (x ∷ xs)) [
    | true ↦ refl
    | false ↦ let one : 1 + position_or_len test xs ≡ suc (position_or_len test xs) = omega arith in rw one (ap (λ ys. x ∷ ys) (front_stays xs))
  ]

  behind_front : (xs : List X) → drop (position_or_len test xs) (others xs) ≡ others (drop (position_or_len test xs) xs)
  behind_front [] = refl
  behind_front (x ∷ xs) = elim (test x) as (λ b. test x ≡ b → drop (cond (not b) (1 + position_or_len test xs) 0) (cond (not b) (x ∷ others xs) (others xs)) ≡ others (drop (cond (not b) (1 + position_or_len test xs) 0) (x ∷ xs))) [
    | true ↦ λ h. rw h refl
    | false ↦ λ h. let one : 1 + position_or_len test xs ≡ suc (position_or_len test xs) = omega arith in rw one (behind_front xs)
  ] refl

  front_length : (xs : List X) → position_or_len test xs ≤ length (others xs)
  front_length [] = omega arith
  front_length (x ∷ xs) = elim (test x) as (λ b. cond (not b) (1 + position_or_len test xs) 0 ≤ length (cond (not b) (x ∷ others xs) (others xs))) [
    | true ↦ omega arith
    | false ↦ let rest = front_length xs in omega arith
  ]

  pub place_within : (xs : List X) → position_or_len test xs ≤ length (filter (λ x. not (test x)) xs)
  place_within = front_length

  -- what is put in the place of the first that passes, all others staying
  pub put_there : (xs : List X) (y : X) → insert (filter (λ x. not (test x)) xs) (position_or_len test xs) y ≡ take (position_or_len test xs) xs ++ y ∷ filter (λ x. not (test x)) (drop (position_or_len test xs) xs)
  put_there xs y = let a = front_stays xs in let b = behind_front xs in λ i. a i ++ y ∷ b i
