-- A moment has one date and time.
use Rattle.std.proofs.Common.{◌≡◌, ℕ, ◌+◌, ◌*◌, ◌<◌, ◌≤◌, List, sym, ap, ◌∙◌, arith, ℤ, pos, ◌+ℤ◌, ◌-ℤ◌}
use Rattle.std.proofs.lemmas.Int.{by_lt_z}
use Rattle.jiff_core.specs.declared.civil.date.Date.{Date}
use Rattle.jiff_core.specs.Calendar.{day_count, days_from_civil, day_of_year, IsCivilDate}
use Rattle.jiff_core.proofs.SignedLemmas.{signed_arith}
use Rattle.jiff_core.proofs.DateLemmas.{epoch_day_injective}
use Rattle.jiff_core.proofs.CalendarLemmas.{day_count-day_of_year, day_count-later_year}
use Rattle.acap_entries.specs.Moments.{first_moment}
use Rattle.acap_entries.specs.Stamp.{IsCivil, IsStamp, days_of, clock_of, moment_of, text_of}
use Rattle.acap_entries.specs.declared.stamps.Civil.{Civil}

-- no date of the years from 0000 on comes before its first
pub at_least : (y m d : ℕ) → IsCivilDate (pos y) m d → day_count (pos 0) 1 1 ≤ day_count (pos y) m d
at_least y m d h =
    let within : day_count (pos y) m d + 1 ≡ day_count (pos y) 1 1 + day_of_year (pos y) m d = day_count-day_of_year (pos y) m d h.2.0 in
    by_lt_z (pos 0) (pos y)
    (λ lt. omega (arith, within, h.2.0, day_count-later_year (pos 0) (pos y) (omega (arith, signed_arith)) lt))
    (λ ge.
    let zero : y ≡ 0 = omega (arith, signed_arith, ge) in
    let first : day_count (pos y) 1 1 ≡ day_count (pos 0) 1 1 = ap (λ n. day_count (pos n) 1 1) zero in
    omega (arith, within, first, h.2.0))

pos_same : (m n : ℕ) → pos m ≡ pos n → m ≡ n
pos_same m n e = cc

same_date : (c d : Civil) → IsCivil c → IsCivil d → day_count (pos c.year) c.month c.day ≡ day_count (pos d.year) d.month d.day → (c.year ≡ d.year) × (c.month ≡ d.month) × (c.day ≡ d.day)
unfolding days_from_civil
same_date c d h k e =
    let a : Date = record { year = pos c.year; month = c.month; day = c.day; year_in = h.date.0; month_in = h.date.1; day_in = h.date.2 } in
    let b : Date = record { year = pos d.year; month = d.month; day = d.day; year_in = k.date.0; month_in = k.date.1; day_in = k.date.2 } in
    let same = epoch_day_injective a b (ap (λ n. pos n -ℤ pos (day_count (pos 1970) 1 1)) e) in
    (pos_same _ _ same.0, same.1, same.2)

clock_within : (c : Civil) → IsCivil c → clock_of c < 86_400_000_000
clock_within c h = omega (arith, h.hour, h.minute, h.second, h.micros)

same_micros : (a b : ℕ) → first_moment +ℤ pos a ≡ first_moment +ℤ pos b → a ≡ b
same_micros a b e = omega (arith, signed_arith, e)

same_time : (c d : Civil) → IsCivil c → IsCivil d → clock_of c ≡ clock_of d → (c.hour ≡ d.hour) × (c.minute ≡ d.minute) × (c.second ≡ d.second) × (c.micros ≡ d.micros)
same_time c d h k e =
    let micros : c.micros ≡ d.micros = omega (arith, e, h.micros, k.micros) in
    let second : c.second ≡ d.second = omega (arith, e, micros, h.second, k.second) in
    let minute : c.minute ≡ d.minute = omega (arith, e, micros, second, h.minute, k.minute) in
    let hour : c.hour ≡ d.hour = omega (arith, e, micros, second, minute) in
    (hour, minute, second, micros)

pub same_civil : (c d : Civil) → IsCivil c → IsCivil d → moment_of c ≡ moment_of d → c ≡ d
same_civil c d h k e =
    let sums : days_of c * 86_400_000_000 + clock_of c ≡ days_of d * 86_400_000_000 + clock_of d = same_micros _ _ e in
    let below : clock_of c < 86_400_000_000 = clock_within c h in
    let below_too : clock_of d < 86_400_000_000 = clock_within d k in
    let days : days_of c ≡ days_of d = omega (arith, sums, below, below_too) in
    let clocks : clock_of c ≡ clock_of d = omega (arith, sums, days) in
    let counts : day_count (pos c.year) c.month c.day ≡ day_count (pos d.year) d.month d.day =
    omega (arith, days, at_least c.year c.month c.day h.date, at_least d.year d.month d.day k.date) in
    let date = same_date c d h k counts in
    let time = same_time c d h k clocks in
    λ i. record { year = date.0 i; month = date.1 i; day = date.2 i; hour = time.0 i; minute = time.1 i; second = time.2 i; micros = time.3 i }

-- and so one stamp
pub same_stamp : (moment : ℤ) (a b : List ℕ) → IsStamp moment a → IsStamp moment b → a ≡ b
same_stamp moment a b p q = p.shown ∙ ap text_of (same_civil p.civil q.civil p.valid q.valid (p.begins ∙ sym q.begins)) ∙ sym q.shown
