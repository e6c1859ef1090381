-- How octets are printed: those that aren't printable ASCII, and the backslash, as `\x` and two hex digits.
use Rattle.std.specs.Prelude.{ℕ, ◌+◌, ◌-◌, ◌*◌, ◌/◌, ◌%◌, ◌==◌, ◌&&◌, not, nat_le, nat_lt, Bool, List}
use Rattle.std.specs.Prelude.{[], ◌∷◌, flat_map, if◌then◌else◌}
use Rattle.acap_shell.specs.declared.form.Form.{Form}
use Rattle.acap_shell.specs.declared.form.Form.TheVariants as form

abbrev pub backslash : ℕ
backslash = 92

abbrev pub tab : ℕ
tab = 9

-- printable ASCII but the backslash
abbrev pub is_plain : ℕ → Bool
is_plain c = nat_le 32 c && nat_le c 126 && not (c == backslash)

-- a hex digit, in lower case
abbrev pub hex_digit : ℕ → ℕ
hex_digit n = if nat_lt n 10 then 48 + n else 87 + n

abbrev pub escape : ℕ → List ℕ
escape c = if is_plain c then c ∷ [] else backslash ∷ 120 ∷ hex_digit (c / 16) ∷ hex_digit (c % 16) ∷ []

abbrev pub printed_value : List ℕ → List ℕ
printed_value octets = flat_map escape octets

abbrev pub printed_by : Form → List ℕ → List ℕ
printed_by form.Escaped octets = printed_value octets
printed_by form.Raw octets = octets

-- the same with TABs as they are
abbrev pub escape_column : ℕ → List ℕ
escape_column c = if c == tab then c ∷ [] else escape c

abbrev pub columns_by : Form → List ℕ → List ℕ
columns_by form.Escaped octets = flat_map escape_column octets
columns_by form.Raw octets = octets

-- ---- the octets that a printed text stands for

-- what a hex digit stands for
abbrev pub digit_value : ℕ → ℕ
digit_value c = if nat_lt c 58 then c - 48 else c - 87

-- what comes next: an octet or a code; the `x` of a code; its first digit; its last, where the first stands
-- for this
pub data Place : Type 0 where
  Plain : Place
  Marked : Place
  High : Place
  Low : ℕ → Place

abbrev pub read_from : Place → List ℕ → List ℕ
read_from _ [] = []
read_from Plain (c ∷ rest) = if c == backslash then read_from Marked rest else c ∷ read_from Plain rest
read_from Marked (c ∷ rest) = read_from High rest
read_from High (c ∷ rest) = read_from (Low (digit_value c)) rest
read_from (Low high) (c ∷ rest) = (16 * high + digit_value c) ∷ read_from Plain rest

abbrev pub read_back : List ℕ → List ℕ
read_back text = read_from Plain text
