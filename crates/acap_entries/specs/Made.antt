-- What calls make, where they don't fail.
use Rattle.std.specs.Prelude.{◌≡◌, Result, IfOk}

-- what is made is that value, where it is made
abbrev pub IsMade : {A E : Type 0} → A → Result A E → Type 0
IsMade value result = IfOk result (λ made. made ≡ value)
