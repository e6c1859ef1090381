-- Contexts and seats as the lists in which they are kept, in the order of their names and numbers.
use Rattle.std.specs.Prelude.{ℕ, ℤ, Bool, List, []}
use Rattle.std.specs.FinMap as table
use Rattle.std.specs.Option.{option_map_or}
use Rattle.acap_notices.specs.declared.told.Told.{Told}
use Rattle.acap_views.specs.Contexts.{Context, Contexts}
use Rattle.acap_views.specs.Keeping.{RoomyContext, RoomyOccupant, contexts_in, occupant_in}
use Rattle.acap_views.specs.Maps.{each_value}
use Rattle.acap_views.specs.Seats.{Occupant, Seated}
use Rattle.acap_views.specs.Telling.{shown_now, notes_of, told_by_name, after_updates}
use Rattle.acap_views.specs.Work.{is_live, any_live}

-- without the room
abbrev pub bare : List ℕ × RoomyContext → List ℕ × Context
bare entry = (entry.0, entry.1.context)

abbrev pub bare_seat : ℕ × RoomyOccupant → ℕ × Occupant
bare_seat entry = (entry.0, occupant_in entry.1)

-- whether it follows the store
abbrev pub live_entry : List ℕ × RoomyContext → Bool
live_entry entry = is_live entry.1.context.kept

abbrev pub live_seat : ℕ × RoomyOccupant → Bool
live_seat entry = any_live (contexts_in entry.1.contexts)

-- a context of which all has been sent that waited
abbrev pub told_entry : List ℕ × Context → List ℕ × Context
told_entry entry = (entry.0, record entry.1 { kept = shown_now entry.1.kept })

abbrev pub as_contexts : List (List ℕ × RoomyContext) → Contexts
as_contexts entries = contexts_in (table.from_sorted entries)

abbrev pub as_seated : List (ℕ × RoomyOccupant) → Seated
as_seated entries = each_value occupant_in (table.from_sorted entries)

-- the notices that wait of the context of a name, after those of other names were sent
abbrev pub waiting_after : Contexts → List (List ℕ) → ℤ → List ℕ → List Told
waiting_after contexts seen last name =
    option_map_or (λ context. notes_of name context.kept) (table.get (after_updates contexts seen last) name)
    []

-- and all that it is sent then
abbrev pub told_by : List (List ℕ × RoomyContext) → List (List ℕ) → ℤ → List ℕ → List Told
told_by entries seen last name = told_by_name (after_updates (as_contexts entries) seen last) name last
