-- Days of the calendar, counted from 1 January of the year 0000.
use Rattle.std.proofs.Common.{◌≡◌, ℕ, ◌+◌, refl, arith, pos, ◌-ℤ◌}
use Rattle.std.proofs.lemmas.Int.{by_lt_z}
use Rattle.jiff_core.specs.declared.civil.date.Date.{Date}
use Rattle.jiff_core.specs.Date.{epoch_day}
use Rattle.jiff_core.specs.Calendar.{day_count, IsBetween}
use Rattle.jiff_core.proofs.SignedLemmas.{signed_arith}
use Rattle.jiff_core.proofs.DateLemmas.{civil}
use Rattle.jiff_core.proofs.CalendarLemmas.{days_from_civil-day_count, day_count-lt_year}
use Rattle.jiff_core.proofs.MarchLemmas.{day_count-early}

pub zero_count : day_count (pos 0) 1 1 ≡ 3_652_425
zero_count = day_count-early (pos 0) 9999 1 1 refl (omega arith) (omega arith) (omega arith)

pub count_of : (d : Date) (n : ℕ) → epoch_day d ≡ pos n -ℤ pos 719_528 → day_count d.year d.month d.day ≡ day_count (pos 0) 1 1 + n
count_of d n e = rw zero_count (omega (arith, signed_arith, days_from_civil-day_count d.year d.month d.day))

pub not_before : (d : Date) (n : ℕ) → day_count d.year d.month d.day ≡ day_count (pos 0) 1 1 + n → IsBetween (pos 0) (pos 9999) d.year
not_before d n e =
    by_lt_z d.year (pos 0)
    (λ lt. absurd (omega (arith, e, day_count-lt_year d.year d.month d.day (pos 0) 1 1 (civil d) (omega arith) lt)))
    (λ ge. (ge, d.year_in.1))
