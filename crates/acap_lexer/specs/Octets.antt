-- Which octets may stand where. [RFC 2244, 2.6 and 8]
use Rattle.std.specs.Prelude.{ℕ, Bool, not, ◌||◌, ◌&&◌, nat_le, nat_lt, ◌==◌}

-- ---- octets by name

abbrev pub line_feed : ℕ
line_feed = 10

abbrev pub carriage_return : ℕ
carriage_return = 13

abbrev pub space : ℕ
space = 32

abbrev pub quote : ℕ
quote = 34

abbrev pub parenthesis : ℕ
parenthesis = 40

abbrev pub closing_parenthesis : ℕ
closing_parenthesis = 41

abbrev pub plus : ℕ
plus = 43

abbrev pub backslash : ℕ
backslash = 92

abbrev pub brace : ℕ
brace = 123

abbrev pub closing_brace : ℕ
closing_brace = 125

-- ---- classes of octets

abbrev pub within : ℕ → ℕ → ℕ → Bool
within low high c = nat_le low c && nat_le c high

-- in a word
unfoldable pub is_word : ℕ → Bool
is_word c = c == 0x21 || within 0x23 0x27 c || within 0x2A 0x5B c || within 0x5D 0x7A c || within 0x7C 0x7E c

-- in a tag
unfoldable pub is_tag : ℕ → Bool
is_tag c = c == 0x21 || within 0x23 0x27 c || within 0x2C 0x5B c || within 0x5D 0x7A c || within 0x7C 0x7E c

-- between quotes, as itself: any but NUL, LF, CR, `"` and `\`
unfoldable pub is_quotable : ℕ → Bool
is_quotable c = not (c == 0 || c == line_feed || c == carriage_return || c == quote || c == backslash)

-- not between quotes as itself
abbrev pub is_special : ℕ → Bool
is_special c = not (is_quotable c)

-- between quotes, as itself, and a character alone
unfoldable pub is_plain : ℕ → Bool
is_plain c = is_quotable c && nat_lt c 128

-- between quotes, after a backslash: `"` and `\`
unfoldable pub is_escaped : ℕ → Bool
is_escaped c = c == quote || c == backslash

-- a decimal digit
unfoldable pub is_digit : ℕ → Bool
is_digit c = within 48 57 c
