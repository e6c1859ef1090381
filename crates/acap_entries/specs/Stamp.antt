-- The printed form of a moment: `YYYYMMDDHHMMSS` and six digits of fraction, in UTC [RFC 2244 sections 3.1.1
-- and 8]. `day_count y m d` is how many days lie between 1 January of the year -10000 and the date y-m-d, in
-- the proleptic Gregorian calendar, and `IsCivilDate y m d` says that the calendar has this date.
use Rattle.std.specs.Prelude.{◌≡◌, ℕ, ◌+◌, ◌-◌, ◌*◌, ◌/◌, ◌%◌, ◌<◌, ◌≤◌, ℤ, pos, ◌+ℤ◌, unsigned_abs, List, []}
use Rattle.std.specs.Prelude.{◌∷◌, ◌++◌, nat_lt, if◌then◌else◌}
use Rattle.jiff_core.specs.Calendar.{day_count, IsCivilDate}
use Rattle.acap_entries.specs.Moments.{first_moment}
use Rattle.acap_entries.specs.declared.stamps.Civil.{Civil}

-- a date of the years 0000 to 9999 and a time of day
pub record IsCivil (c : Civil) : Type 0 where
  pub year : c.year ≤ 9999
  pub date : IsCivilDate (pos c.year) c.month c.day
  pub hour : c.hour < 24
  pub minute : c.minute < 60
  pub second : c.second < 60
  pub micros : c.micros < 1_000_000

-- the days from 1 January of the year 0000 to the date, and the microseconds from midnight to the time of day
abbrev pub days_of : Civil → ℕ
days_of c = day_count (pos c.year) c.month c.day - day_count (pos 0) 1 1

abbrev pub clock_of : Civil → ℕ
clock_of c = ((c.hour * 60 + c.minute) * 60 + c.second) * 1_000_000 + c.micros

-- the moment at which that date and time begin
abbrev pub moment_of : Civil → ℤ
moment_of c = first_moment +ℤ pos (days_of c * 86_400_000_000 + clock_of c)

-- a number in two, four or six decimal digits
abbrev pub two : ℕ → List ℕ
two n = (48 + n / 10) ∷ (48 + n % 10) ∷ []

abbrev pub four : ℕ → List ℕ
four n = two (n / 100) ++ two (n % 100)

abbrev pub six : ℕ → List ℕ
six n = two (n / 10_000) ++ four (n % 10_000)

abbrev pub text_of : Civil → List ℕ
text_of c = four c.year ++ two c.month ++ two c.day ++ two c.hour ++ two c.minute ++ two c.second
    ++ six c.micros

-- the text is the stamp of the moment: the digits of the date and time at which it begins
pub record IsStamp (moment : ℤ) (text : List ℕ) : Type 0 where
  pub civil : Civil
  pub valid : IsCivil civil
  pub begins : moment_of civil ≡ moment
  pub shown : text ≡ text_of civil

-- The same as a function of the moment. Years are counted as beginning on 1 March, from 1 March of the year
-- -10000 on, so that a leap day ends its year: a year has 1461 / 4 days on average within a century, a
-- century 146097 / 4. From that day 1 January of the year 0000 is 3,652,365 days: 25 times the 146,097 of 400
-- years, less the 60 of its January and February.
abbrev pub in_century : ℕ → ℕ
in_century day = (4 * (day + 3_652_365) + 3) % 146_097 / 4 * 4 + 3

abbrev pub march_year : ℕ → ℕ
march_year day = 100 * ((4 * (day + 3_652_365) + 3) / 146_097) + in_century day / 1461

-- the day of that year, from 0; and the month from 3 to 14 and the day of the month that it is
abbrev pub day_of_march_year : ℕ → ℕ
day_of_march_year day = in_century day % 1461 / 4

abbrev pub march_month : ℕ → ℕ
march_month n = (5 * n + 461) / 153

abbrev pub march_day : ℕ → ℕ
march_day n = (5 * n + 461) % 153 / 5 + 1

-- the date and time of a count of microseconds from the start of the year 0000
abbrev pub civil_at : ℕ → ℕ → Civil
civil_at day clock =
    let n = day_of_march_year day in
    record {
      year = (if nat_lt 12 (march_month n) then march_year day + 1 else march_year day) - 10_000;
      month = if nat_lt 12 (march_month n) then march_month n - 12 else march_month n;
      day = march_day n;
      hour = clock / 3_600_000_000;
      minute = clock / 60_000_000 % 60;
      second = clock / 1_000_000 % 60;
      micros = clock % 1_000_000;
    }

abbrev pub since_first : ℤ → ℕ
since_first moment = unsigned_abs (moment +ℤ pos 62_167_219_200_000_000)

abbrev pub civil_of : ℤ → Civil
civil_of moment = civil_at (since_first moment / 86_400_000_000) (since_first moment % 86_400_000_000)

-- the twenty digits
unfoldable pub stamp_of : ℤ → List ℕ
stamp_of moment = text_of (civil_of moment)
