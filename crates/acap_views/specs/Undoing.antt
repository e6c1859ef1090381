-- The list that a client was sent last, as the present one with the moves since then taken back.
use Rattle.std.specs.Prelude.{◌≡◌, ℕ, ◌-◌, ◌≤◌, List, Option, Some, None, IfSome, vec_len, vec_capacity}
use Rattle.std.specs.Prelude.{map as each}
use Rattle.std.specs.Borrow.{Bor}
use Rattle.acap_moves.specs.Moves.{Undo, undone, all_undone}
use Rattle.acap_search.specs.Matches.{Match}
use Rattle.acap_views.specs.declared.last_sent.LastSent.{LastSent}
use Rattle.acap_views.specs.declared.last_sent.LastSent.TheVariants.{Moves, Written}

-- hits that are lent, as their matches
abbrev pub matches_lent : List (Bor Match) → List Match
matches_lent hits = each (λ hit. hit.now) hits

abbrev pub shown_in : LastSent → List Match → List Match
shown_in (Moves undos) now = all_undone undos.items now
shown_in (Written hits) now = hits

-- what was shown is what is shown now with one move more taken back
abbrev pub IsLogged : Undo Match → LastSent → LastSent → Type 0
IsLogged undo before after = (now : List Match) → shown_in after now ≡ shown_in before (undone undo now)

-- how many moves more there is room for; none are kept where the list is written out
abbrev pub room_in : LastSent → Option ℕ
room_in (Moves undos) = Some (vec_capacity undos - vec_len undos)
room_in (Written hits) = None

abbrev pub HasPlaces : ℕ → LastSent → Type 0
HasPlaces more shown = IfSome (room_in shown) (λ room. more ≤ room)
