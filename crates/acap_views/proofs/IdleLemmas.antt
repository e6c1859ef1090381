-- A move that left a list as it was.
use Rattle.std.proofs.Common.{◌≡◌, ℕ, zero, suc, Some, List, [], ◌∷◌, ap}
use Rattle.std.specs.List.{insert, remove, slice_get}
use Rattle.acap_search.specs.Matches.{Match}

-- what was taken out is put where it stood
pub put_again : (hits : List Match) (place : ℕ) (found : Match) → slice_get hits place ≡ Some found → insert (remove hits place) place found ≡ hits
put_again [] place found e = cc
put_again (x ∷ hits) zero found e = let same : found ≡ x = cc in ap (λ y. y ∷ hits) same
put_again (x ∷ hits) (suc place) found e = ap (λ t. x ∷ t) (put_again hits place found e)
