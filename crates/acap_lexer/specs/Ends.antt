-- Places of a text at which no part ends.
use Rattle.std.specs.Prelude.{◌≡◌, ℕ, ◌+◌, ◌-◌, ◌<◌, List, Bool, nat_lt, ◌==◌, ◌&&◌, slice_index}

-- no CR LF lies in the first octets
abbrev pub NoEnd : List ℕ → ℕ → Type 0
NoEnd text looked = (k : ℕ) → k + 1 < looked → slice_index text k ≡ 13 → slice_index text (k + 1) ≡ 10 → ⊥

-- whether a CR stands before the place
abbrev pub follows_return : List ℕ → ℕ → Bool
follows_return text at = nat_lt 0 at && slice_index text (at - 1) == 13
