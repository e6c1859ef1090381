-- Lists of passes.
use Rattle.std.proofs.Common.{◌≡◌, ◌==◌, nat_lt, ◌<◌, ◌≤◌, ℕ, zero, suc, ◌+◌, List, [], ◌∷◌, ◌++◌, map, Bool, true, false, if◌then◌else◌, length, arith, ◌||◌, refl, ap}
use Rattle.std.specs.List.{list_any}
use Rattle.std.proofs.lemmas.Bool.Decides.{nat_tests}
use Rattle.acap_locked.specs.declared.item.PassContents.{PassContents}
use Rattle.acap_locked.specs.Passes.{calls_through, calls_of, is_of, HereBelow}

pub calls_push : (hs : List PassContents) (h : PassContents) → calls_of (hs ++ h ∷ []) ≡ calls_of hs + calls_through h
calls_push [] h = omega arith
calls_push (x ∷ xs) h = omega (arith, calls_push xs h)

pub map_push : (f : PassContents → PassContents) (hs : List PassContents) (h : PassContents) → map f (hs ++ h ∷ []) ≡ map f hs ++ f h ∷ []
map_push f [] h = refl
map_push f (x ∷ xs) h = ap (λ ys. f x ∷ ys) (map_push f xs h)

-- how many passes have a seat below m, and at m
abbrev one : Bool → ℕ
one b = if b then 1 else 0

abbrev below : ℕ → List PassContents → ℕ
below m [] = 0
below m (h ∷ hs) = one (nat_lt h.seat m) + below m hs

abbrev at : ℕ → List PassContents → ℕ
at m [] = 0
at m (h ∷ hs) = one (h.seat == m) + at m hs

below_one : (m n : ℕ) → one (nat_lt n (suc m)) ≡ one (nat_lt n m) + one (n == m)
below_one m n = grind (arith, nat_tests)

below_suc : (m : ℕ) (hs : List PassContents) → below (suc m) hs ≡ below m hs + at m hs
below_suc m [] = omega arith
below_suc m (h ∷ hs) = omega (arith, below_one m h.seat, below_suc m hs)

below_le : (m : ℕ) (hs : List PassContents) → below m hs ≤ length hs
below_le m [] = omega arith
below_le m (h ∷ hs) = elim (nat_lt h.seat m) as (λ b. one b + below m hs ≤ suc (length hs)) [ true ↦ omega (arith, below_le m hs) | false ↦ omega (arith, below_le m hs) ]

at_any : (m : ℕ) (hs : List PassContents) → list_any (is_of m) hs ≡ true → 0 < at m hs
at_any m [] = λ e. cc
at_any m (h ∷ hs) = elim (h.seat == m) as (λ b. (b || list_any (is_of m) hs) ≡ true → 0 < one b + at m hs) [ true ↦ λ _. omega arith | false ↦ λ e. omega (arith, at_any m hs e) ]

here_le : (m : ℕ) (hs : List PassContents) → ((n : ℕ) → n < m → list_any (is_of n) hs ≡ true) → m ≤ below m hs
here_le zero hs h = omega arith
here_le (suc m) hs h = omega (arith, below_suc m hs, here_le m hs (λ n l. h n (omega arith)), at_any m hs (h m (omega arith)))

-- with a pass for each seat there are as many passes
pub here_number : (m : ℕ) (hs : List PassContents) → HereBelow hs m → m ≤ length hs
here_number m hs h = omega (arith, here_le m hs h.here, below_le m hs)
