-- How a line of a row file ends: words of private contracts.
use Rattle.std.specs.Prelude.{ℕ, Bool, ◌==◌, ◌%◌, List}
use Rattle.std.specs.List.{suffix_len}

abbrev pub is_backslash : ℕ → Bool
is_backslash octet = octet == 92

-- whether the last backslash stands alone: before it are pairs, each of which is an escaped backslash
abbrev pub ends_alone : List ℕ → Bool
ends_alone line = suffix_len is_backslash line % 2 == 1
