-- How comparators order strings of octets (RFC 2244, section 3.4): a
-- string has a rank, and strings stand to each other as their ranks do.
use Rattle.std.specs.Prelude.{ℕ, ◌+◌, ◌-◌, ◌*◌, Bool, true, false, ◌&&◌, nat_le, if◌then◌else◌, List, [], ◌∷◌}
use Rattle.std.specs.Prelude.{Option, None, Some, map}
use Rattle.std.specs.List.{fold, take_while}
use Rattle.std.specs.Char.{is_ascii_digit}
use Rattle.std.specs.Cmp.Lexicographic.{slice_cmp}
use Rattle.std.specs.Ordering.{nat_cmp, ordering_reverse, is_eq}
use Rattle.std.specs.declared.cmp.Ordering.{Ordering}
use Rattle.std.specs.declared.cmp.Ordering.TheVariants.{Less, Equal, Greater}
use Rattle.acap_order.specs.declared.comparator.Collation.{Collation}
use Rattle.acap_order.specs.declared.comparator.Collation.TheVariants.{Octet, AsciiCasemap, AsciiNumeric}
use Rattle.acap_order.specs.declared.comparator.Direction.{Direction}
use Rattle.acap_order.specs.declared.comparator.Direction.TheVariants.{Ascending, Descending}
use Rattle.acap_order.specs.declared.comparator.Comparator.{Comparator}

-- i;ascii-casemap of section 3.4: an octet from 0x61 to
-- 0x7A, a small letter, counts as the one from 0x41 to 0x5A
abbrev pub upper_case_of : ℕ → ℕ
upper_case_of octet = if nat_le 0x61 octet && nat_le octet 0x7A then octet - 0x20 else octet

-- a string with each of its ASCII letters in upper case
abbrev pub upper_case : List ℕ → List ℕ
upper_case text = map upper_case_of text

-- the whole number that ASCII digits (0x30 to 0x39) spell in decimal, the first digit being the highest
abbrev pub number_of : List ℕ → ℕ
number_of digits = fold (λ number digit. 10 * number + (digit - 0x30)) 0 digits

-- no digits spell no number
abbrev pub spelled_number : List ℕ → Option ℕ
spelled_number [] = None
spelled_number (digit ∷ digits) = Some (number_of (digit ∷ digits))

-- i;ascii-numeric of section 3.4: the number that the leading
-- digits of a string spell, however many, if it begins with a digit
abbrev pub leading_number : List ℕ → Option ℕ
leading_number text = spelled_number (take_while is_ascii_digit text)

-- what a string is compared by: octets, or a number where there is one
pub data Rank : Type 0 where
  Octets : List ℕ → Rank
  Number : Option ℕ → Rank

-- the rank of a string: its octets, its octets in upper case, or its leading number (section 3.4)
abbrev pub rank_of : Collation → List ℕ → Rank
rank_of Octet text = Octets text
rank_of AsciiCasemap text = Octets (upper_case text)
rank_of AsciiNumeric text = Number (leading_number text)

-- whether ranks are numbers; then there is no PREFIX and no SUBSTRING (section 3.4)
abbrev pub is_numeric : Collation → Bool
is_numeric Octet = false
is_numeric AsciiCasemap = false
is_numeric AsciiNumeric = true

-- octets as unsigned numbers, the first that differ deciding;
-- a proper prefix comes first (i;octet of section 3.4)
abbrev pub octets_cmp : List ℕ → List ℕ → Ordering
octets_cmp a b = slice_cmp nat_cmp a b

-- numbers by their size; no number is above every number,
-- and equal to no number (i;ascii-numeric of section 3.4)
abbrev pub number_cmp : Option ℕ → Option ℕ → Ordering
number_cmp (Some m) (Some n) = nat_cmp m n
number_cmp (Some m) None = Less
number_cmp None (Some n) = Greater
number_cmp None None = Equal

-- the order of ranks; those of one comparator are of one kind, so it never meets the last two lines
abbrev pub rank_cmp : Rank → Rank → Ordering
rank_cmp (Octets a) (Octets b) = octets_cmp a b
rank_cmp (Number a) (Number b) = number_cmp a b
rank_cmp (Octets a) (Number b) = Less
rank_cmp (Number a) (Octets b) = Greater

-- an order as it is, or reversed, as the sign `-` of section 3.4 does
abbrev pub in_direction : Direction → Ordering → Ordering
in_direction Ascending order = order
in_direction Descending order = ordering_reverse order

-- how a comparator orders two strings: as their ranks, in its direction
abbrev pub comparator_cmp : Comparator → List ℕ → List ℕ → Ordering
comparator_cmp comparator a b =
    in_direction comparator.direction
    (rank_cmp (rank_of comparator.collation a) (rank_of comparator.collation b))

-- whether two strings are equal to a comparator: neither is before the other
abbrev pub comparator_eq : Comparator → List ℕ → List ℕ → Bool
comparator_eq comparator a b = is_eq (comparator_cmp comparator a b)
