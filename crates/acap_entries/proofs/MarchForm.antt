-- The date and time that the stamp's function computes are those of the calendar.
use Rattle.std.proofs.Common.{◌≡◌, ℕ, suc, ◌+◌, ◌-◌, ◌<◌, ◌≤◌, arith, pos, ◌+ℤ◌}
use Rattle.jiff_core.specs.Calendar.{day_count, IsCivilDate}
use Rattle.jiff_core.specs.March.{march_days}
use Rattle.jiff_core.proofs.SignedLemmas.{signed_arith}
use Rattle.jiff_core.proofs.MarchLemmas.{day_count-early, day_count-late, month_and_day, day_in_month, day_in_early_month, march_days-suc, leap_day-shift}
use Rattle.acap_entries.specs.Stamp.{march_year, day_of_march_year, march_month, march_day}
use Rattle.acap_entries.proofs.StampLemmas.{zero_count}

year_days : (day : ℕ) → day < 3_652_425 → march_days (march_year day) + day_of_march_year day ≡ day + 3_652_365
year_days day h = omega arith

within_year : (day : ℕ) → day < 3_652_425 → day + 3_652_365 < march_days (march_year day + 1)
within_year day h = omega arith

below_366 : (day : ℕ) → day_of_march_year day < 366
below_366 day = omega arith

-- which years come about
years : (day : ℕ) → day < 3_652_425 → (9_999 ≤ march_year day) × (march_year day ≤ 19_999)
years day h = (omega arith, omega arith)

-- January and February belong to the next year, which is at most 9999 after the start
early_year : (day : ℕ) → day < 3_652_425 → 12 < march_month (day_of_march_year day) → march_year day ≤ 19_998
early_year day h late =
    let n = day_of_march_year day in
    let far : 306 ≤ day_of_march_year day = omega (arith, late) in
    let days = year_days day h in
    omega (arith, far, days, below_366 day)

late_year : (day : ℕ) → day < 3_652_425 → march_month (day_of_march_year day) ≤ 12 → 10_000 ≤ march_year day
late_year day h low =
    let near : day_of_march_year day < 306 = omega (arith, low) in
    omega (arith, near, year_days day h, within_year day h)

pub record IsDay (day y m d : ℕ) : Type 0 where
  pub year : y ≤ 9999
  pub date : IsCivilDate (pos y) m d
  pub count : day_count (pos y) m d ≡ day_count (pos 0) 1 1 + day

pub early : (day : ℕ) → day < 3_652_425 → 12 < march_month (day_of_march_year day) → IsDay day (march_year day + 1 - 10_000) (march_month (day_of_march_year day) - 12) (march_day (day_of_march_year day))
early day h late =
    let n = day_of_march_year day in
    let y = march_year day + 1 - 10_000 in
    let low : 9_999 ≤ march_year day = (years day h).0 in
    let high : march_year day ≤ 19_998 = early_year day h late in
    let shifted : pos y +ℤ pos 10000 ≡ pos (suc (march_year day)) = omega (arith, signed_arith, low) in
    let month : march_month n - 12 + 12 ≡ march_month n = omega (arith, late) in
    let few : march_month n ≤ 14 = omega (arith, below_366 day) in
    let count = day_count-early (pos y) (march_year day) (march_month n - 12) (march_day n) shifted (omega arith) (omega arith) (omega arith) in
    let leap = leap_day-shift (pos y) (suc (march_year day)) shifted in
    let length = march_days-suc (march_year day) in
    record {
      year = omega (arith, low, high);
      date = ((omega (arith, signed_arith), omega (arith, signed_arith, high)), (omega (arith, late), omega (arith, few)), (omega arith, day_in_early_month (pos y) n late (omega (arith, leap, length, year_days day h, within_year day h))));
      count = omega (arith, rw month at count, month_and_day n (below_366 day), year_days day h, zero_count);
    }

pub late : (day : ℕ) → day < 3_652_425 → march_month (day_of_march_year day) ≤ 12 → IsDay day (march_year day - 10_000) (march_month (day_of_march_year day)) (march_day (day_of_march_year day))
late day h low =
    let n = day_of_march_year day in
    let y = march_year day - 10_000 in
    let least : 10_000 ≤ march_year day = late_year day h low in
    let most : march_year day ≤ 19_999 = (years day h).1 in
    let shifted : pos y +ℤ pos 10000 ≡ pos (march_year day) = omega (arith, signed_arith, least) in
    let from_march : 3 ≤ march_month n = omega arith in
    let count = day_count-late (pos y) (march_year day) (march_month n) (march_day n) shifted from_march low (omega arith) in
    record {
      year = omega (arith, most);
      date = ((omega (arith, signed_arith), omega (arith, signed_arith, most)), (omega (arith, from_march), low), (omega arith, day_in_month (pos y) n low));
      count = omega (arith, count, month_and_day n (below_366 day), year_days day h, zero_count);
    }
