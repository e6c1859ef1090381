-- How many of the matches a SEARCH sends [RFC 2244 section 6.4.1].
use Rattle.std.specs.Prelude.{◌≡◌, ◌⊎◌, ℕ, max, min, nat_lt, List, length, take, Option, Some, None}
use Rattle.std.specs.Prelude.{if◌then◌else◌, map as each}
use Rattle.acap_commands.specs.declared.search_modifiers.Limit.{Limit}
use Rattle.acap_search.specs.Matches.{Match}
use Rattle.acap_search.specs.declared.cutting.Cut.{Cut}
use Rattle.acap_search.specs.declared.answer.SearchAnswer.{SearchAnswer}

-- where there are more matches than the first number of LIMIT, as many as its second number, and the total
abbrev pub cut_of : Option Limit → ℕ → Cut
cut_of None count = record { told = count; total = None }
cut_of (Some limit) count =
    if nat_lt limit.over count then record { told = min count limit.most; total = Some count }
    else record { told = count; total = None }

-- how many are sent at most, whatever their number: words of private contracts. Without LIMIT as many as can
-- be counted
abbrev pub most_told : Option Limit → ℕ
most_told None = 18_446_744_073_709_551_615
most_told (Some limit) = max limit.over limit.most

-- what is gathered for LIMIT: no more than it may let through, or all of it
abbrev pub IsWished : Option Limit → Option Limit → Type 0
IsWished limit wished = (wished ≡ limit) ⊎ (wished ≡ None)

-- what is sent of some matches: the rows of the first of them
abbrev pub IsExcerpt : Option Limit → SearchAnswer → List Match → Type 0
IsExcerpt limit excerpt matches =
    (excerpt.rows ≡ each (λ found. found.row) (take (cut_of limit (length matches)).told matches))
    × (excerpt.total ≡ (cut_of limit (length matches)).total)
