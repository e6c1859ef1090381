-- What a reply has of the matches, by what is told of them.
use Rattle.std.proofs.Common.{◌≡◌, ℕ, ℤ, Option, Some, None, List, take, length, min, refl, ap, ◌∙◌, option_map, is_some, if◌then◌else◌, map as each}
use Rattle.std.proofs.lemmas.List.{take_min}
use Rattle.acap_entries.specs.declared.row.Row.{Row}
use Rattle.acap_commands.specs.declared.search_modifiers.Limit.{Limit}
use Rattle.acap_commands.specs.declared.returns.ReturnItem.{ReturnItem}
use Rattle.acap_machine.specs.Searching.{number_told, rows_told, rows_if, last_told, found_with, found_of}
use Rattle.acap_search.specs.Cutting.{cut_of}
use Rattle.acap_search.specs.Matches.{Match}
use Rattle.acap_search.specs.declared.query.SearchSpec.{SearchSpec}

rows_are : (returns : Option (List ReturnItem)) (matches : List Match) (most : ℕ) → rows_if returns (each (λ found. found.row) (take most matches)) ≡ rows_told returns matches most
rows_are None matches most = refl
rows_are (Some returns) matches most = refl

pub found_is : (last : ℤ) (sought : SearchSpec) (limit : Option Limit) (matches : List Match) (rows : List Row) (total : Option ℕ) → rows ≡ each (λ found. found.row) (take (cut_of limit (length matches)).told matches)
    → total ≡ (cut_of limit (length matches)).total → found_with last sought rows total ≡ found_of last sought limit matches
found_is last sought limit matches rows total e t =
    (λ i. found_with last sought (e i) (t i))
    ∙ (λ i. record {
      rows = rows_are sought.returns matches (cut_of limit (length matches)).told i;
      last = last_told sought.returns last;
      total = option_map number_told (cut_of limit (length matches)).total;
    })

-- ---- the same of rows that are copied, and without RETURN aren't

told_are : (returns : Option (List ReturnItem)) (matches : List Match) (most : ℕ)
    → rows_if returns (each (λ found. found.row) (take (if is_some returns then most else 0) matches)) ≡ rows_told returns matches most
told_are None matches most = refl
told_are (Some returns) matches most = refl

pub copied_is : (last : ℤ) (sought : SearchSpec) (limit : Option Limit) (matches : List Match) (rows : List Row) (total : Option ℕ) (told : ℕ)
    → told ≡ (if is_some sought.returns then (cut_of limit (length matches)).told else 0)
    → rows ≡ each (λ found. found.row) (take (min told (length matches)) matches)
    → total ≡ (cut_of limit (length matches)).total → found_with last sought rows total ≡ found_of last sought limit matches
copied_is last sought limit matches rows total told n e t =
    let first = (e ∙ ap (each (λ found. found.row)) (take_min told matches)) ∙ ap (λ k. each (λ found. found.row) (take k matches)) n in
    (λ i. found_with last sought (first i) (t i))
    ∙ (λ i. record {
      rows = told_are sought.returns matches (cut_of limit (length matches)).told i;
      last = last_told sought.returns last;
      total = option_map number_told (cut_of limit (length matches)).total;
    })
