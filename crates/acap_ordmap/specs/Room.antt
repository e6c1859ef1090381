-- Room in memory that is there already.
use Rattle.std.specs.Prelude.{ℕ, ◌-◌, Vec, vec_len, vec_capacity}

-- how many items more a vector takes without memory
abbrev pub free_of : {X Z : Type 0} → Vec X Z → ℕ
free_of v = vec_capacity v - vec_len v
