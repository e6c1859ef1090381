-- The order and the equality of strings of octets [RFC 2244 section 3.4: i;octet].
use Rattle.std.specs.Prelude.{ℕ, Bool, nat_eq, List}
use Rattle.std.specs.declared.cmp.Ordering.{Ordering}
use Rattle.std.specs.Ordering.{nat_cmp}
use Rattle.std.specs.Cmp.Lexicographic.{slice_cmp, pointwise}

-- octet by octet, a proper prefix first
abbrev pub octets_cmp : List ℕ → List ℕ → Ordering
octets_cmp = slice_cmp nat_cmp

-- whether two strings are equal
abbrev pub octets_eq : List ℕ → List ℕ → Bool
octets_eq = pointwise nat_eq
