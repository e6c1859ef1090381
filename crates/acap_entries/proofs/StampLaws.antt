-- Each moment has exactly one stamp, and these are some.
use Rattle.std.proofs.Common.{◌≡◌, ℕ, ◌+◌, ◌-◌, ◌*◌, ◌/◌, ◌%◌, ◌<◌, true, false, cond, refl, ap, ◌∙◌, arith, ℤ, pos, negsuc, ◌+ℤ◌, ◌≤ℤ◌}
use Rattle.std.proofs.lemmas.Bool.{ltb-true, ltb-false}
use Rattle.std.specs.Prelude.{nat_lt, unsigned_abs}
use Rattle.jiff_core.proofs.SignedLemmas.{signed_arith}
use Rattle.acap_entries.specs.Moments.{first_moment, last_moment, IsMoment}
use Rattle.acap_entries.specs.Stamp.{IsCivil, IsStamp, days_of, clock_of, moment_of, march_year, day_of_march_year, march_month, march_day, civil_at, civil_of, since_first, stamp_of}
use Rattle.acap_entries.specs.Laws.{StampLaw, StampExamples}
use Rattle.acap_entries.proofs.CivilLemmas.{same_stamp}
use Rattle.acap_entries.proofs.MarchForm.{IsDay, early, late}

day_is : (day : ℕ) → day < 3_652_425 → IsDay day (cond (nat_lt 12 (march_month (day_of_march_year day))) (march_year day + 1) (march_year day) - 10_000) (cond (nat_lt 12 (march_month (day_of_march_year day))) (march_month (day_of_march_year day) - 12) (march_month (day_of_march_year day))) (march_day (day_of_march_year day))
day_is day h = elim (nat_lt 12 (march_month (day_of_march_year day))) as (λ b. nat_lt 12 (march_month (day_of_march_year day)) ≡ b → IsDay day (cond b (march_year day + 1) (march_year day) - 10_000) (cond b (march_month (day_of_march_year day) - 12) (march_month (day_of_march_year day))) (march_day (day_of_march_year day))) [
  | true ↦ λ e. early day h (ltb-true _ _ e)
  | false ↦ λ e. late day h (ltb-false _ _ e)
] refl

valid_at : (day clock : ℕ) → day < 3_652_425 → clock < 86_400_000_000 → IsCivil (civil_at day clock)
valid_at day clock h k = let d = day_is day h in record {
  year = d.year;
  date = d.date;
  hour = omega arith;
  minute = omega arith;
  second = omega arith;
  micros = omega arith;
}

days_at : (day clock : ℕ) → day < 3_652_425 → days_of (civil_at day clock) ≡ day
days_at day clock h = let d = day_is day h in omega (arith, d.count)

clock_at : (day clock : ℕ) → clock_of (civil_at day clock) ≡ clock
clock_at day clock = omega arith

nonnegative : (w : ℤ) → pos 0 ≤ℤ w → w ≡ pos (unsigned_abs w)
nonnegative (pos n) h = refl
nonnegative (negsuc n) h = absurd (omega (arith, signed_arith, h))

since_is : (z : ℤ) → IsMoment z → first_moment +ℤ pos (since_first z) ≡ z
since_is z h =
    let same : z +ℤ pos 62_167_219_200_000_000 ≡ pos (since_first z) = nonnegative _ (omega (arith, signed_arith, h.0)) in
    omega (arith, signed_arith, same)

since_bound : (z : ℤ) → IsMoment z → since_first z < 3_652_425 * 86_400_000_000
since_bound z h =
    let same : z +ℤ pos 62_167_219_200_000_000 ≡ pos (since_first z) = nonnegative _ (omega (arith, signed_arith, h.0)) in
    omega (arith, signed_arith, same, h.1)

parts_join : (n : ℕ) → n / 86_400_000_000 * 86_400_000_000 + n % 86_400_000_000 ≡ n
parts_join n = omega arith

begins_at : (z : ℤ) → IsMoment z → moment_of (civil_of z) ≡ z
begins_at z h =
    let n = since_first z in
    let bound : n < 3_652_425 * 86_400_000_000 = since_bound z h in
    let days = days_at (n / 86_400_000_000) (n % 86_400_000_000) (omega (arith, bound)) in
    let clock = clock_at (n / 86_400_000_000) (n % 86_400_000_000) in
    ap (λ t. first_moment +ℤ pos t) (ap (λ t. t * 86_400_000_000 + clock_of (civil_of z)) days ∙ ap (λ t. n / 86_400_000_000 * 86_400_000_000 + t) clock ∙ parts_join n) ∙ since_is z h

pub stamp_is : (z : ℤ) → IsMoment z → IsStamp z (stamp_of z)
unfolding stamp_of
stamp_is z h =
    let n = since_first z in
    let bound : n < 3_652_425 * 86_400_000_000 = since_bound z h in
    record {
      civil = civil_of z;
      valid = valid_at (n / 86_400_000_000) (n % 86_400_000_000) (omega (arith, bound)) (omega arith);
      begins = begins_at z h;
      shown = refl;
    }

pub stamp_law : StampLaw
stamp_law = record { exists = stamp_is; only = same_stamp }

pub stamp_examples : StampExamples
unfolding stamp_of
stamp_examples = record {
  zero_is = stamp_is (pos 0) (omega (arith, signed_arith), omega (arith, signed_arith));
  one_is = stamp_is (pos 1) (omega (arith, signed_arith), omega (arith, signed_arith));
  first_is = stamp_is first_moment (omega (arith, signed_arith), omega (arith, signed_arith));
  last_is = stamp_is last_moment (omega (arith, signed_arith), omega (arith, signed_arith));
}
