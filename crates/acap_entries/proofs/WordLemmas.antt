-- Texts compare as the numbers that their first octets are, and where these tie as what is left of them.
use Rattle.std.proofs.Common.{◌≡◌, ℕ, zero, suc, ◌≤◌, ◌<◌, ◌+◌, ◌*◌, ◌^◌, ◌⊎◌, inl, inr, List, [], ◌∷◌, length, take, drop, get_or, refl, sym, ap, ◌∙◌, arith}
use Rattle.std.proofs.lemmas.Bool.{cases_order}
use Rattle.std.proofs.lemmas.Nat.{mul-add-lt}
use Rattle.std.proofs.Math.Nat.{mul-le-mul_right, pow-succ'}
use Rattle.std.specs.Cmp.{nat_cmp_is}
use Rattle.std.specs.Int.{w32, w64, from_be_bytes}
use Rattle.std.specs.Ordering.{nat_cmp, ordering_then}
use Rattle.std.specs.declared.cmp.Ordering.{Ordering}
use Rattle.std.specs.declared.cmp.Ordering.TheVariants.{Less, Equal, Greater}
use Rattle.acap_entries.specs.Orders.{octets_cmp}

-- the octets as one number, the first of them the highest
abbrev number : List ℕ → ℕ
number [] = 0
number (x ∷ xs) = x * 256 ^ length xs + number xs

-- each is an octet
abbrev AreOctets : List ℕ → Type 0
AreOctets xs = (i : ℕ) → get_or xs i 0 < 256

number_below : (xs : List ℕ) → AreOctets xs → number xs < 256 ^ length xs
number_below [] h = omega arith
number_below (x ∷ xs) h = let below = mul-add-lt x (256 ^ length xs) (number xs) 256 (h 0) (number_below xs (λ i. h (suc i))) in omega (arith, below, pow-succ' 256 (length xs))

is_less : (x y : ℕ) → x < y → nat_cmp x y ≡ Less
is_less x y h = sym (nat_cmp_is x y Less h)

is_equal : (x y : ℕ) → x ≡ y → nat_cmp x y ≡ Equal
is_equal x y h = sym (nat_cmp_is x y Equal h)

is_greater : (x y : ℕ) → y < x → nat_cmp x y ≡ Greater
is_greater x y h = sym (nat_cmp_is x y Greater h)

-- the greater digit makes the greater number, whatever comes after it
digit_first : (x y p u v : ℕ) → x < y → u < p → x * p + u < y * p + v
digit_first x y p u v h below = let more = mul-le-mul_right {m = suc x} {n = y} p h in omega (arith, more)

same_digit : (x y p u v : ℕ) → x ≡ y → (u ≡ v) ⊎ ((u < v) ⊎ (v < u)) → nat_cmp u v ≡ nat_cmp (x * p + u) (y * p + v)
same_digit x y p u v same (inl e) = is_equal u v e ∙ sym (is_equal (x * p + u) (y * p + v) cc)
same_digit x y p u v same (inr (inl e)) = let product : x * p ≡ y * p = cc in is_less u v e ∙ sym (is_less (x * p + u) (y * p + v) (omega (arith, product)))
same_digit x y p u v same (inr (inr e)) = let product : x * p ≡ y * p = cc in is_greater u v e ∙ sym (is_greater (x * p + u) (y * p + v) (omega (arith, product)))

number_step : (x y p u v : ℕ) → u < p → v < p → (x ≡ y) ⊎ ((x < y) ⊎ (y < x)) → ordering_then (nat_cmp x y) (nat_cmp u v) ≡ nat_cmp (x * p + u) (y * p + v)
number_step x y p u v m k (inl same) = ap (λ o. ordering_then o (nat_cmp u v)) (is_equal x y same) ∙ same_digit x y p u v same (cases_order u v)
number_step x y p u v m k (inr (inl less)) = ap (λ o. ordering_then o (nat_cmp u v)) (is_less x y less) ∙ sym (is_less _ _ (digit_first x y p u v less m))
number_step x y p u v m k (inr (inr more)) = ap (λ o. ordering_then o (nat_cmp u v)) (is_greater x y more) ∙ sym (is_greater _ _ (digit_first y x p v u more k))

by_number : (xs ys : List ℕ) → length xs ≡ length ys → AreOctets xs → AreOctets ys → octets_cmp xs ys ≡ nat_cmp (number xs) (number ys)
by_number [] [] e h k = sym (is_equal 0 0 refl)
by_number [] (y ∷ ys) e h k = absurd (omega arith)
by_number (x ∷ xs) [] e h k = absurd (omega arith)
by_number (x ∷ xs) (y ∷ ys) e h k =
    let same : length ys ≡ length xs = omega arith in
    let first = number_below xs (λ i. h (suc i)) in
    let second = number_below ys (λ i. k (suc i)) in
    let p = 256 ^ length xs in
    let size : 256 ^ length ys ≡ p = ap (λ n. 256 ^ n) same in
    ap (ordering_then (nat_cmp x y)) (by_number xs ys (sym same) (λ i. h (suc i)) (λ i. k (suc i)))
    ∙ number_step x y p (number xs) (number ys) first (omega (arith, second, size)) (cases_order x y)
    ∙ ap (λ n. nat_cmp (x * p + number xs) (y * n + number ys)) (sym size)

-- eight octets as one number, as `u64::from_be_bytes` reads them
word_number : (xs : List ℕ) → length xs ≡ 8 → from_be_bytes w64 xs ≡ number xs
word_number (a ∷ b ∷ c ∷ d ∷ e ∷ f ∷ g ∷ h ∷ []) m = omega arith
word_number _ m = absurd (omega arith)

half_number : (xs : List ℕ) → length xs ≡ 4 → from_be_bytes w32 xs ≡ number xs
half_number (a ∷ b ∷ c ∷ d ∷ []) m = omega arith
half_number _ m = absurd (omega arith)

-- a first answer, and then that of what comes after it
then_then : (o p q r : Ordering) → ordering_then p q ≡ r → ordering_then (ordering_then o p) q ≡ ordering_then o r
then_then Less p q r e = refl
then_then Equal p q r e = e
then_then Greater p q r e = refl

-- texts compare by their first octets, and then by what comes after these
pub then_cmp : (n : ℕ) (a b : List ℕ) → n ≤ length a → n ≤ length b → ordering_then (octets_cmp (take n a) (take n b)) (octets_cmp (drop n a) (drop n b)) ≡ octets_cmp a b
then_cmp zero a b m k = refl
then_cmp (suc n) [] b m k = absurd (omega arith)
then_cmp (suc n) (x ∷ a) [] m k = absurd (omega arith)
then_cmp (suc n) (x ∷ a) (y ∷ b) m k = then_then (nat_cmp x y) (octets_cmp (take n a) (take n b)) (octets_cmp (drop n a) (drop n b)) (octets_cmp a b) (then_cmp n a b (omega arith) (omega arith))

-- eight octets compare as the numbers that they are
pub by_word_number : (xs ys : List ℕ) → length xs ≡ 8 → length ys ≡ 8 → AreOctets xs → AreOctets ys → octets_cmp xs ys ≡ nat_cmp (from_be_bytes w64 xs) (from_be_bytes w64 ys)
by_word_number xs ys m n h k = by_number xs ys (m ∙ sym n) h k ∙ ap (λ u. nat_cmp u (number ys)) (sym (word_number xs m)) ∙ ap (nat_cmp (from_be_bytes w64 xs)) (sym (word_number ys n))

-- four octets, too
pub by_half_number : (xs ys : List ℕ) → length xs ≡ 4 → length ys ≡ 4 → AreOctets xs → AreOctets ys → octets_cmp xs ys ≡ nat_cmp (from_be_bytes w32 xs) (from_be_bytes w32 ys)
by_half_number xs ys m n h k = by_number xs ys (m ∙ sym n) h k ∙ ap (λ u. nat_cmp u (number ys)) (sym (half_number xs m)) ∙ ap (nat_cmp (from_be_bytes w32 xs)) (sym (half_number ys n))
