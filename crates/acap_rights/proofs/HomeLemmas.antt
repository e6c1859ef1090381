-- Components.
use Rattle.std.proofs.Common.{◌≡◌, ℕ, false, List, [], ◌∷◌, None, refl}
use Rattle.std.specs.Prelude.{codes}
use Rattle.acap_entries.specs.Orders.{octets_eq}
use Rattle.acap_rights.specs.Homes.{third_of}

pub no_third : (class second : List ℕ) (more : List (List ℕ)) → octets_eq second (codes "user") ≡ false → third_of (class ∷ second ∷ more) ≡ None
no_third class second [] h = refl
no_third class second (name ∷ others) h = rw h refl
