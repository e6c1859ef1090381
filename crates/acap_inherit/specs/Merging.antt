-- Lists of names in the order of their octets, of which the least name is taken again and again.
use Rattle.std.specs.Prelude.{ℕ, Bool, true, false, not, ◌&&◌, IsTrue, List, [], ◌∷◌, Option, Some, None}
use Rattle.std.specs.Prelude.{if◌then◌else◌}
use Rattle.std.specs.List.{list_all, list_any}
use Rattle.std.specs.Ordering.{is_lt}
use Rattle.acap_entries.specs.Orders.{octets_cmp, octets_eq}

-- whether names strictly rise
abbrev pub is_below : List ℕ → List (List ℕ) → Bool
is_below name [] = true
is_below name (other ∷ names) = is_lt (octets_cmp name other) && is_below name names

abbrev pub is_rising : List (List ℕ) → Bool
is_rising [] = true
is_rising (name ∷ names) = is_below name names && is_rising names

-- without the first name, if it is that one
abbrev pub past_name : List ℕ → List (List ℕ) → List (List ℕ)
past_name name [] = []
past_name name (first ∷ names) = if octets_eq name first then names else first ∷ names

-- whether a list has no name, begins with a name, begins with no lesser one
abbrev pub is_ended : List (List ℕ) → Bool
is_ended [] = true
is_ended (first ∷ names) = false

abbrev pub is_first : List ℕ → List (List ℕ) → Bool
is_first name [] = false
is_first name (first ∷ names) = octets_eq name first

abbrev pub is_least : List ℕ → List (List ℕ) → Bool
is_least name [] = true
is_least name (first ∷ names) = not (is_lt (octets_cmp first name))

-- the least of the names with which lists begin, if there is one
abbrev pub IsLeast : Option (List ℕ) → List (List (List ℕ)) → Type 0
IsLeast None lists = IsTrue (list_all is_ended lists)
IsLeast (Some name) lists = IsTrue (list_all (is_least name) lists && list_any (is_first name) lists)

-- the lesser of two names that may be none
abbrev pub lesser : Option (List ℕ) → Option (List ℕ) → Option (List ℕ)
lesser None other = other
lesser (Some name) None = Some name
lesser (Some name) (Some other) = if is_lt (octets_cmp other name) then Some other else Some name
