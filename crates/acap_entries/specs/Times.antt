-- The times that clients send: `YYYYMMDDHHMMSS` and fractions of the second, in UTC [RFC 2244 section 8].
use Rattle.std.specs.Prelude.{ℕ, ◌+◌, ◌-◌, ◌*◌, Bool, ◌&&◌, ◌==◌, nat_lt, nat_le, if◌then◌else◌, ℤ, pos, List}
use Rattle.std.specs.Prelude.{◌++◌, length, take, drop, replicate, Option, Some, None}
use Rattle.std.specs.List.{fold, list_all}
use Rattle.std.specs.Int.{is_in_range}
use Rattle.std.specs.Char.{is_ascii_digit}
use Rattle.jiff_core.specs.Calendar.{days_in_month}
use Rattle.acap_entries.specs.Stamp.{moment_of}
use Rattle.acap_entries.specs.declared.stamps.Civil.{Civil}

-- the number that decimal digits write, and the number that some of them write, from a place on
abbrev pub number_of : List ℕ → ℕ
number_of digits = fold (λ number digit. 10 * number + (digit - 48)) 0 digits

abbrev pub field : ℕ → ℕ → List ℕ → ℕ
field from count digits = number_of (take count (drop from digits))

-- the first twenty digits, with zeros for those that are not there
abbrev pub twenty : List ℕ → List ℕ
twenty text = take 20 (text ++ replicate 6 48)

-- the date and time of day that twenty digits write
abbrev pub civil_of : List ℕ → Civil
civil_of digits = record {
  year = field 0 4 digits;
  month = field 4 2 digits;
  day = field 6 2 digits;
  hour = field 8 2 digits;
  minute = field 10 2 digits;
  second = field 12 2 digits;
  micros = field 14 6 digits;
}

-- a leap second, the second 60 of its minute, is read as the last microsecond of that minute
abbrev pub without_leap : Civil → Civil
without_leap c = if c.second == 60 then record c { second = 59; micros = 999_999 } else c

-- the date and time of day that a text writes
abbrev pub civil_in : List ℕ → Civil
civil_in text = without_leap (civil_of (twenty text))

-- the calendar has the date, in the years 0000 to 9999, and the day has the time: `IsCivil` as a test
unfoldable pub is_civil : Civil → Bool
is_civil c =
    nat_le c.year 9999 && is_in_range 1 12 c.month && is_in_range 1 (days_in_month (pos c.year) c.month) c.day
    && nat_lt c.hour 24 && nat_lt c.minute 60 && nat_lt c.second 60 && nat_lt c.micros 1_000_000

-- fourteen digits or more, and nothing else, that write a date and a time of day
unfoldable pub is_time : List ℕ → Bool
is_time text = nat_le 14 (length text) && list_all is_ascii_digit text && is_civil (civil_in text)

-- the moment that a text stands for, if it is a time
unfoldable pub time_of : List ℕ → Option ℤ
time_of text = if is_time text then Some (moment_of (civil_in text)) else None
