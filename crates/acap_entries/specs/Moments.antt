-- The moments of a store's changes, which modtimes print [RFC 2244 section 3.1.1].
use Rattle.std.specs.Prelude.{ℤ, pos, neg_ℤ, ◌+ℤ◌, ◌≤ℤ◌, if◌then◌else◌, Option, Some, None, int_lt}
use Rattle.std.specs.Ordering.{int_eq}

-- the first microsecond of the year 0000, counted from the
-- start of 1970: 719,528 days of 86,400,000,000 earlier
abbrev pub first_moment : ℤ
first_moment = neg_ℤ (pos 62_167_219_200_000_000)

-- the last microsecond of the year 9999: the end of the 3,652,425 days of 10,000 years
abbrev pub last_moment : ℤ
last_moment = pos 253_402_300_799_999_999

-- a count of microseconds within the years 0000 to 9999
abbrev pub IsMoment : ℤ → Type 0
IsMoment micros = (first_moment ≤ℤ micros) × (micros ≤ℤ last_moment)

-- the moment of a change: the greater of the clock and one
-- after the last change, and none after the last of all moments
abbrev pub moment_after : ℤ → ℤ → Option ℤ
moment_after last clock =
    if int_eq last last_moment then None
    else (if int_lt last clock then Some clock else Some (last +ℤ pos 1))
