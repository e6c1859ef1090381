-- A moment's stamp is read as that moment, and these are some times.
use Rattle.std.proofs.Common.{◌≡◌, ℕ, ◌+◌, ◌-◌, ◌*◌, ◌/◌, ◌%◌, ◌<◌, true, List, [], ◌++◌, refl, ap, ◌∙◌, arith, pos, ◌+ℤ◌, Some}
use Rattle.std.specs.Prelude.{◌==◌}
use Rattle.std.specs.List.{list_all}
use Rattle.std.specs.Char.{is_ascii_digit}
use Rattle.std.proofs.lemmas.Bool.{and_from, le-leb, lt-ltb, ne_eqb, cond-true, cond-false}
use Rattle.jiff_core.specs.Calendar.{day_count}
use Rattle.jiff_core.proofs.CalendarLemmas.{day_count-epoch, days_in_month_bounds}
use Rattle.jiff_core.proofs.MarchLemmas.{day_count-early, day_count-late}
use Rattle.acap_entries.specs.Moments.{first_moment}
use Rattle.acap_entries.specs.Stamp.{IsCivil, moment_of, two, four, six, text_of}
use Rattle.acap_entries.specs.Times.{number_of, civil_of, without_leap, civil_in, is_civil, is_time, time_of}
use Rattle.acap_entries.specs.Laws.{TimeLaw, TimeExamples}
use Rattle.acap_entries.specs.declared.stamps.Civil.{Civil}
use Rattle.acap_entries.proofs.StampLemmas.{zero_count}
use Rattle.acap_entries.proofs.StampLaws.{stamp_is}

-- the digits of a number below a hundred, ten thousand or a million write it
two_back : (n : ℕ) → n < 100 → number_of (two n) ≡ n
two_back n h = omega arith

four_back : (n : ℕ) → n < 10_000 → number_of (four n) ≡ n
four_back n h = omega arith

six_back : (n : ℕ) → n < 1_000_000 → number_of (six n) ≡ n
six_back n h = omega arith

day_bound : (c : Civil) → IsCivil c → c.day < 100
day_bound c h = omega (arith, h.date, days_in_month_bounds (pos c.year) c.month)

-- the digits of a date and time write them
written_back : (c : Civil) → IsCivil c → civil_of (text_of c) ≡ c
written_back c h =
    let year = four_back c.year (omega (arith, h.year)) in
    let month = two_back c.month (omega (arith, h.date)) in
    let day = two_back c.day (day_bound c h) in
    let hour = two_back c.hour (omega (arith, h.hour)) in
    let minute = two_back c.minute (omega (arith, h.minute)) in
    let second = two_back c.second (omega (arith, h.second)) in
    let micros = six_back c.micros h.micros in
    λ i. record { year = year i; month = month i; day = day i; hour = hour i; minute = minute i; second = second i; micros = micros i }

-- a second below 60 stays
settled_back : (c : Civil) → c.second < 60 → without_leap c ≡ c
settled_back c h = cond-false (c.second == 60) _ _ (ne_eqb c.second 60 (λ e. omega arith))

civil_back : (c : Civil) → IsCivil c → civil_in (text_of c) ≡ c
civil_back c h = ap without_leap (written_back c h) ∙ settled_back c h.second

test_by_civil : (c : Civil) → IsCivil c → is_civil c ≡ true
unfolding is_civil
test_by_civil c h =
    let month = and_from _ _ (le-leb 1 c.month h.date.1.0) (le-leb c.month 12 h.date.1.1) in
    let day = and_from _ _ (le-leb 1 c.day h.date.2.0) (le-leb c.day _ h.date.2.1) in
    let date = and_from _ _ (and_from _ _ (le-leb c.year 9999 h.year) month) day in
    let hour = and_from _ _ date (lt-ltb c.hour 24 h.hour) in
    let minute = and_from _ _ hour (lt-ltb c.minute 60 h.minute) in
    let second = and_from _ _ minute (lt-ltb c.second 60 h.second) in
    and_from _ _ second (lt-ltb c.micros 1_000_000 h.micros)

-- the digits of a stamp are digits
digit_is : (n : ℕ) → n < 10 → is_ascii_digit (48 + n) ≡ true
digit_is n h = and_from _ _ (le-leb 48 (48 + n) (omega arith)) (le-leb (48 + n) 57 (omega arith))

two_then : (n : ℕ) (rest : List ℕ) → n < 100 → list_all is_ascii_digit rest ≡ true → list_all is_ascii_digit (two n ++ rest) ≡ true
two_then n rest h k = and_from _ _ (digit_is (n / 10) (omega arith)) (and_from _ _ (digit_is (n % 10) (omega arith)) k)

four_then : (n : ℕ) (rest : List ℕ) → n < 10_000 → list_all is_ascii_digit rest ≡ true → list_all is_ascii_digit (four n ++ rest) ≡ true
four_then n rest h k = two_then (n / 100) (two (n % 100) ++ rest) (omega arith) (two_then (n % 100) rest (omega arith) k)

six_then : (n : ℕ) → n < 1_000_000 → list_all is_ascii_digit (six n) ≡ true
six_then n h = two_then (n / 10_000) (four (n % 10_000)) (omega arith) (four_then (n % 10_000) [] (omega arith) refl)

all_digits : (c : Civil) → IsCivil c → list_all is_ascii_digit (text_of c) ≡ true
all_digits c h =
    let second = two_then c.second (six c.micros) (omega (arith, h.second)) (six_then c.micros h.micros) in
    let minute = two_then c.minute (two c.second ++ six c.micros) (omega (arith, h.minute)) second in
    let hour = two_then c.hour (two c.minute ++ two c.second ++ six c.micros) (omega (arith, h.hour)) minute in
    let day = two_then c.day (two c.hour ++ two c.minute ++ two c.second ++ six c.micros) (day_bound c h) hour in
    let month = two_then c.month (two c.day ++ two c.hour ++ two c.minute ++ two c.second ++ six c.micros) (omega (arith, h.date)) day in
    four_then c.year (two c.month ++ two c.day ++ two c.hour ++ two c.minute ++ two c.second ++ six c.micros) (omega (arith, h.year)) month

is_read : (text : List ℕ) → is_time text ≡ true → time_of text ≡ Some (moment_of (civil_in text))
unfolding time_of
is_read text h = cond-true (is_time text) _ _ h

stamp_read : (c : Civil) → IsCivil c → is_time (text_of c) ≡ true
unfolding is_time
stamp_read c h = and_from _ _ (all_digits c h) (ap is_civil (civil_back c h) ∙ test_by_civil c h)

pub time_law : TimeLaw
time_law moment h =
    let s = stamp_is moment h in
    ap time_of s.shown ∙ is_read (text_of s.civil) (stamp_read s.civil s.valid) ∙ ap (λ c. Some (moment_of c)) (civil_back s.civil s.valid) ∙ ap Some s.begins

-- the moment of a date whose days are known
on : (y m d days clock : ℕ) → day_count (pos y) m d - day_count (pos 0) 1 1 ≡ days → Some (first_moment +ℤ pos ((day_count (pos y) m d - day_count (pos 0) 1 1) * 86_400_000_000 + clock)) ≡ Some (first_moment +ℤ pos (days * 86_400_000_000 + clock))
on y m d days clock e = ap (λ n. Some (first_moment +ℤ pos (n * 86_400_000_000 + clock))) e

epoch : day_count (pos 1970) 1 1 - day_count (pos 0) 1 1 ≡ 719_528
epoch = omega (arith, day_count-epoch, zero_count)

eve : day_count (pos 1969) 12 31 - day_count (pos 0) 1 1 ≡ 719_527
eve = omega (arith, day_count-late (pos 1969) 11969 12 31 refl (omega arith) (omega arith) (omega arith), zero_count)

leap : day_count (pos 2000) 2 29 - day_count (pos 0) 1 1 ≡ 730_544
leap = omega (arith, day_count-early (pos 2000) 11999 2 29 refl (omega arith) (omega arith) (omega arith), zero_count)

last : day_count (pos 9999) 12 31 - day_count (pos 0) 1 1 ≡ 3_652_424
last = omega (arith, day_count-late (pos 9999) 19999 12 31 refl (omega arith) (omega arith) (omega arith), zero_count)

same : day_count (pos 0) 1 1 - day_count (pos 0) 1 1 ≡ 0
same = omega arith

pub time_examples : TimeExamples
unfolding time_of is_time is_civil
time_examples = record {
  zero = on 1970 1 1 719_528 0 epoch;
  tenth = on 1970 1 1 719_528 100_000 epoch;
  twenty_digits = on 1970 1 1 719_528 1 epoch;
  thirty_digits = on 1970 1 1 719_528 1 epoch;
  first_time = on 0 1 1 0 0 same;
  last_time = on 9999 12 31 3_652_424 86_399_999_999 last;
  before_1970 = on 1969 12 31 719_527 86_399_000_000 eve;
  leap_second = on 1969 12 31 719_527 86_399_999_999 eve;
  leap_second_fraction = on 1969 12 31 719_527 86_399_999_999 eve;
  second_61 = refl;
  minute_60 = refl;
  hour_24 = refl;
  leap_day = on 2000 2 29 730_544 0 leap;
  no_leap_day = refl;
  april_31 = refl;
  day_0 = refl;
  month_0 = refl;
  month_13 = refl;
  thirteen_digits = refl;
  nothing = refl;
  letter = refl;
  sign = refl;
  letter_behind = refl;
}
