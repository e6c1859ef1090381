-- Names among others.
use Rattle.std.proofs.Common.{◌≡◌, ℕ, ◌||◌, List, [], ◌∷◌, refl, ap}
use Rattle.std.specs.List.{list_any}
use Rattle.acap_entries.specs.Orders.{octets_eq}
use Rattle.acap_moves.specs.Hits.{is_among}

pub any_among : (name : List ℕ) (names : List (List ℕ)) → list_any (λ other. octets_eq name other) names ≡ is_among name names
unfolding is_among
any_among name [] = refl
any_among name (other ∷ names) = ap (λ b. octets_eq name other || b) (any_among name names)
