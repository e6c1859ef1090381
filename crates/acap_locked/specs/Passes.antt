-- Passes, and what they say of a history.
use Rattle.std.specs.Prelude.{◌≡◌, ◌==◌, ◌+◌, ◌<◌, ℕ, zero, suc, List, [], ◌∷◌, ◌++◌, Bool, true, false}
use Rattle.std.specs.Prelude.{if◌then◌else◌, length, slice_index}
use Rattle.std.specs.List.{list_any}
use Rattle.acap_locked.specs.declared.history_entry.HistoryEntry.{HistoryEntry}
use Rattle.acap_locked.specs.declared.item.PassContents.{PassContents}
use Rattle.acap_locked.specs.declared.item.Item.{Item}
use Rattle.acap_locked.specs.Epochs.{held_in}
use Rattle.acap_locked.specs.Notes.{item_of}

-- a pass without calls
abbrev pub new_pass : ℕ → PassContents
new_pass seat = record { seat = seat; epoch = 0; items = []; retired = 0 }

-- one for each of the first seats
unfoldable pub new_passes : ℕ → List PassContents
new_passes zero = []
new_passes (suc n) = new_passes n ++ new_pass n ∷ []

-- the calls of a seat, from a place on, as its pass notes them
abbrev pub items_from : ℕ → ℕ → ℕ → List HistoryEntry → List Item
items_from epoch seat place [] = []
items_from epoch seat place (e ∷ es) =
    if e.seat == seat then item_of epoch place e.exchange ∷ items_from epoch seat (place + 1) es
    else items_from epoch seat (place + 1) es

-- how many calls were made through a pass, and through all of them
abbrev pub calls_through : PassContents → ℕ
calls_through h = h.retired + length h.items

abbrev pub calls_of : List PassContents → ℕ
calls_of [] = 0
calls_of (h ∷ hs) = calls_through h + calls_of hs

abbrev pub is_of : ℕ → PassContents → Bool
is_of seat h = h.seat == seat

-- each of the first seats has a pass
pub record HereBelow (passes : List PassContents) (m : ℕ) : Type 0 where
  pub here : (n : ℕ) → n < m → list_any (is_of n) passes ≡ true

-- the least seat without a pass
pub record IsMissing (passes : List PassContents) (seat : ℕ) : Type 0 where
  pub missing : list_any (is_of seat) passes ≡ false
  pub before : HereBelow passes seat

-- in the epoch of the history, the pass has exactly its seat's
-- calls, in order, and their count in the epochs before
abbrev pub Stands : ℕ → List HistoryEntry → ℕ → PassContents → Type 0
Stands epoch history count h =
    ((held_in epoch h).items ≡ items_from epoch h.seat 0 history) × ((held_in epoch h).retired ≡ count)

-- so does each pass of a seat
abbrev pub IsSame : List PassContents → ℕ → List HistoryEntry → ℕ → ℕ → Type 0
IsSame [] epoch history count seat = Unit {0}
IsSame (h ∷ hs) epoch history count seat =
    (is_of seat h ≡ true → Stands epoch history count h) × IsSame hs epoch history count seat

-- and that of each of the first seats
pub record SameBelow (passes : List PassContents) (epoch : ℕ) (history : List HistoryEntry) (retired : List ℕ)
    (m : ℕ) : Type 0 where
  pub same : (n : ℕ) → n < m → IsSame passes epoch history (slice_index retired n) n

-- the least seat with a pass that differs
pub record IsUnequal (passes : List PassContents) (epoch : ℕ) (history : List HistoryEntry) (retired : List ℕ)
    (seat : ℕ) : Type 0 where
  pub differs : IsSame passes epoch history (slice_index retired seat) seat → ⊥
  pub before : SameBelow passes epoch history retired seat
