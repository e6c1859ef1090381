-- What a call appends to a vector.
use Rattle.std.specs.Prelude.{◌≡◌, ℕ, List, ◌++◌, Result, OnOk}
use Rattle.acap_lexer.specs.Printing.{Grows}

-- these octets; where memory was refused, what stood before stays
pub record Appends {X E : Type 0} (result : Result X E) (old new octets : List ℕ) : Type 0 where
  pub ok : OnOk result (new ≡ old ++ octets)
  pub grows : Grows old new
