-- The hits of a list that are sought one after the other: words of private contracts.
use Rattle.std.specs.Prelude.{List, [], ◌∷◌, Option}
use Rattle.std.specs.Borrow.{Bor}
use Rattle.std.specs.List.{Contains, cons_option}
use Rattle.std.specs.Option.{option_copied}
use Rattle.acap_search.specs.Matches.{Match}

-- all of some matches are in a list
abbrev pub AreAmong : List Match → List Match → Type 0
AreAmong matches [] = Unit {0}
AreAmong matches (m ∷ ms) = Contains matches m × AreAmong matches ms

-- those that are still to come, the first of them apart
abbrev pub matches_left : Option (Bor Match) → List Match → List Match
matches_left next others = cons_option (option_copied next) others
