-- Digits as numbers are compared by them.
use Rattle.std.specs.Prelude.{ℕ, ◌==◌, if◌then◌else◌, List, [], ◌∷◌}

-- digits without leading zeros (0x30)
abbrev pub significant_digits : List ℕ → List ℕ
significant_digits [] = []
significant_digits (digit ∷ digits) = if digit == 0x30 then significant_digits digits else digit ∷ digits
