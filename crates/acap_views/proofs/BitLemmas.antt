-- The bits of a sum of powers of 2: those whose power stands in it.
use Rattle.std.proofs.Common.{◌≡◌, ◌↔◌, ℕ, zero, suc, ◌+◌, ◌-◌, ◌*◌, ◌^◌, ◌<◌, ◌≤◌, Bool, true, false, true≢false, cond, refl, sym, ap, ◌∙◌, ⊎_elim, arith, pow-suc, add_comm, eq-or-lt_of_le}
use Rattle.std.specs.Int.{bit_at, sum_through}
use Rattle.std.proofs.lemmas.Bool.{cases_lt}
use Rattle.std.proofs.lemmas.Nat.Bits.{bit_at_cat_low, bit_at_cat_high, bit_at_above, bit_at-lt, same_from_bits}
use Rattle.acap_views.specs.Seats.{Seated}
use Rattle.acap_views.specs.Waiting.{is_waiting, waiting, waiting_bit}

abbrev digit : Bool → ℕ
digit true = 1
digit false = 0

shifted : (b : Bool) (n : ℕ) → cond b (2 ^ n) 0 ≡ digit b * 2 ^ n
shifted true n = omega arith
shifted false n = omega arith

alone : (b : Bool) → bit_at (cond b 1 0) 0 ≡ digit b
alone true = refl
alone false = refl

fits : (b : Bool) (n : ℕ) → cond b (2 ^ n) 0 ≤ 2 ^ n
fits true n = omega arith
fits false n = omega arith

digit_bit : (b : Bool) → bit_at (digit b) 0 ≡ digit b
digit_bit true = refl
digit_bit false = refl

is_one : (b : Bool) → (digit b ≡ 1) ↔ (b ≡ true)
is_one true = (λ e. refl, λ e. refl)
is_one false = (λ e. cc, λ e. cc)

module _ (test : ℕ → Bool) where
  abbrev power : ℕ → ℕ
  power n = cond (test n) (2 ^ n) 0

  below : (k : ℕ) → sum_through power k < 2 ^ suc k
  below zero = omega (arith, fits (test 0) 0)
  below (suc k) = omega (arith, below k, fits (test (suc k)) (suc k), pow-suc 2 (suc k))

  above_all : (k : ℕ) → sum_through power (suc k) ≡ digit (test (suc k)) * 2 ^ suc k + sum_through power k
  above_all k = ap (λ x. sum_through power k + x) (shifted (test (suc k)) (suc k)) ∙ add_comm (sum_through power k) _

  last : (k n : ℕ) → n ≡ suc k → bit_at (digit (test (suc k)) * 2 ^ suc k + sum_through power k) n ≡ digit (test n)
  last k n same =
      let first : n - suc k ≡ 0 = omega arith in
      bit_at_cat_high (digit (test (suc k))) (suc k) (sum_through power k) n (below k) (omega arith)
      ∙ ap (bit_at (digit (test (suc k)))) first ∙ digit_bit (test (suc k)) ∙ ap (λ m. digit (test m)) (sym same)

  bit_in : (k n : ℕ) → n ≤ k → bit_at (sum_through power k) n ≡ digit (test n)
  bit_in zero zero h = alone (test 0)
  bit_in zero (suc n) h = absurd (omega arith)
  bit_in (suc k) n h =
      ap (λ x. bit_at x n) (above_all k) ∙ ⊎_elim (λ same. last k n same) (λ less. bit_at_cat_low (digit (test (suc k))) (suc k) (sum_through power k) n less ∙ bit_in k n (omega arith)) (eq-or-lt_of_le h)

-- ---- the seats at which something waits

pub waiting_bits : (seats : Seated) (seat : ℕ) → seat < 64 → (bit_at (waiting seats) seat ≡ 1) ↔ (is_waiting seats seat ≡ true)
unfolding waiting
waiting_bits seats seat h =
    let same = bit_in (is_waiting seats) 63 seat (omega arith) in
    let one = is_one (is_waiting seats seat) in
    (λ e. one.0 (sym same ∙ e), λ e. same ∙ one.1 e)

digit_of : (x : ℕ) (b : Bool) → x < 2 → (x ≡ 1) ↔ (b ≡ true) → x ≡ digit b
digit_of x true l h = h.1 refl
digit_of zero false l h = refl
digit_of (suc zero) false l h = absurd (true≢false (sym (h.0 refl)))
digit_of (suc (suc x)) false l h = absurd (omega arith)

-- a word that has these bits and no others is that of the seats
pub waiting_word : (seats : Seated) (word : ℕ) → ((n : ℕ) → n < 64 → (bit_at word n ≡ 1) ↔ (is_waiting seats n ≡ true)) → ((n : ℕ) → 64 ≤ n → bit_at word n ≡ 0) → word ≡ waiting seats
unfolding waiting
waiting_word seats word told rest =
    same_from_bits word (sum_through (waiting_bit seats) 63) (λ n. ⊎_elim (λ less. digit_of (bit_at word n) (is_waiting seats n) (bit_at-lt word n) (told n less) ∙ sym (bit_in (is_waiting seats) 63 n (omega arith))) (λ more. rest n more ∙ sym (bit_at_above (sum_through (waiting_bit seats) 63) 64 n (below (is_waiting seats) 63) more)) (cases_lt n 64))
