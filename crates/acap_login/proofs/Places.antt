-- The first place at which a test passes.
use Rattle.std.proofs.Common.{◌≡◌, ℕ, zero, suc, ◌+◌, ◌<◌, ◌≤◌, Bool, true, false, List, [], ◌∷◌, length, get_or, map, Some, None, nat_lt, nat_eq, take, ◌&&◌, cond, add-one, refl, ap, arith}
use Rattle.std.specs.Str.{bytes_eq}
use Rattle.std.specs.List.{position, position_or_len}
use Rattle.std.proofs.lemmas.List.Sums.{position_or_len_is, fails_before_first}
use Rattle.std.proofs.lemmas.List.{length-map}

chosen : (i n : ℕ) (b : Bool) → nat_lt i n ≡ b → cond (nat_lt i n) (Some i) None ≡ cond b (Some i) None
chosen i n b e = ap (λ t. cond t (Some i) None) e

below : (i n : ℕ) → i < n → nat_lt i n ≡ true
below i n h = grind arith

not_below : (i n : ℕ) → n ≤ i → nat_lt i n ≡ false
not_below i n h = grind arith

-- a place that passes, with none before it, is the first
pub position_at : {X : Type 0} (p : X → Bool) (xs : List X) (i : ℕ) (d : X) → i < length xs → p (get_or xs i d) ≡ true → ((k : ℕ) → k < i → p (get_or xs k d) ≡ false) → position p xs ≡ Some i
position_at p xs i d within passes before =
    let e : position_or_len p xs ≡ i = position_or_len_is p xs i d (omega arith) before (λ _. passes) in
    rw e (chosen i (length xs) true (below i (length xs) within))

-- where none passes there is no place
pub position_nowhere : {X : Type 0} (p : X → Bool) (xs : List X) (d : X) → ((k : ℕ) → k < length xs → p (get_or xs k d) ≡ false) → position p xs ≡ None
position_nowhere p xs d never =
    let e : position_or_len p xs ≡ length xs = position_or_len_is p xs (length xs) d (omega arith) never (λ h. absurd (omega arith)) in
    rw e (chosen (length xs) (length xs) false (not_below (length xs) (length xs) (omega arith)))

-- and the other way round
passes_nowhere : {X : Type 0} (p : X → Bool) (xs : List X) (d : X) (b : Bool) → nat_lt (position_or_len p xs) (length xs) ≡ b → cond b (Some (position_or_len p xs)) None ≡ None → (k : ℕ) → k < length xs → p (get_or xs k d) ≡ false
passes_nowhere p xs d true is none k within = cc
passes_nowhere p xs d false is none k within =
    let far : length xs ≤ position_or_len p xs = grind arith in
    fails_before_first p xs k d (omega arith)

pub nowhere : {X : Type 0} (p : X → Bool) (xs : List X) (d : X) → position p xs ≡ None → (k : ℕ) → k < length xs → p (get_or xs k d) ≡ false
nowhere p xs d none = passes_nowhere p xs d _ refl none

-- a place among mapped elements
or_len_map : {X Y : Type 0} (p : Y → Bool) (f : X → Y) (xs : List X) → position_or_len p (map f xs) ≡ position_or_len (λ x. p (f x)) xs
or_len_map p f [] = refl
or_len_map p f (x ∷ xs) = let e = or_len_map p f xs in rw e

pub position_map : {X Y : Type 0} (p : Y → Bool) (f : X → Y) (xs : List X) → position p (map f xs) ≡ position (λ x. p (f x)) xs
position_map p f xs = let e = or_len_map p f xs in rw (e, length-map)

-- texts compared so far, and one octet more
next : (xs ys : List ℕ) (i : ℕ) → i < length xs → i < length ys → bytes_eq (take (suc i) xs) (take (suc i) ys) ≡ (bytes_eq (take i xs) (take i ys) && nat_eq (get_or xs i 0) (get_or ys i 0))
next [] ys i h k = absurd (omega arith)
next (x ∷ xs) [] i h k = absurd (omega arith)
next (x ∷ xs) (y ∷ ys) zero h k = elim (nat_eq x y) as (λ b. (b && true) ≡ b) [ true ↦ refl | false ↦ refl ]
next (x ∷ xs) (y ∷ ys) (suc i) h k =
    let e = next xs ys i (omega arith) (omega arith) in
    elim (nat_eq x y) as (λ b. (b && bytes_eq (take (suc i) xs) (take (suc i) ys)) ≡ ((b && bytes_eq (take i xs) (take i ys)) && nat_eq (get_or xs i 0) (get_or ys i 0))) [ true ↦ e | false ↦ refl ]

pub one_more : (xs ys : List ℕ) (i : ℕ) → i < length xs → i < length ys → bytes_eq (take (i + 1) xs) (take (i + 1) ys) ≡ (bytes_eq (take i xs) (take i ys) && nat_eq (get_or xs i 0) (get_or ys i 0))
one_more xs ys i h k = rw add-one (next xs ys i h k)
