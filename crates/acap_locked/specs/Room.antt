-- Room in memory that is there already.
use Rattle.std.specs.Prelude.{◌<◌, Vec, vec_len, vec_capacity}

-- one item more goes into a vector without memory
abbrev pub HasRoom : {X Z : Type 0} → Vec X Z → Type 0
HasRoom v = vec_len v < vec_capacity v
