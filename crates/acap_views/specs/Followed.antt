-- There is room for what a change comes to, context by context: words of contracts.
use Rattle.std.specs.Prelude.{ℕ, List, [], ◌∷◌, length}
use Rattle.std.specs.FinMap as table
use Rattle.acap_views.specs.Contexts.{Kept, Snapshot, Live, Freed}
use Rattle.acap_views.specs.Keeping.{RoomyContext, RoomyOccupant, RoomySeats}
use Rattle.acap_views.specs.Preparing.{Prepared}
use Rattle.acap_views.specs.Room.{Space}
use Rattle.acap_views.specs.Room as room
use Rattle.acap_views.specs.EntryUpdates.{EntryUpdate}

-- a context that isn't live needs none
abbrev pub HasRoomIn : ℕ → Kept → Space → Type 0
HasRoomIn more (Snapshot shown) space = Unit {0}
HasRoomIn more (Live shown now pending) space = room.HasRoom more pending space
HasRoomIn more Freed space = Unit {0}

abbrev pub HasRoomFor : ℕ → RoomyContext → Type 0
HasRoomFor more context = HasRoomIn more context.context.kept context.space

-- so it is of what stands at the same place of two lists, at each place that both have
abbrev pub EachFits : {X Y : Type 0} → (X → Y → Type 0) → List X → List Y → Type 0
EachFits P [] ys = Unit {0}
EachFits P (x ∷ xs) [] = Unit {0}
EachFits P (x ∷ xs) (y ∷ ys) = P x y × EachFits P xs ys

-- each context has room for what is prepared for it, which stands at the same place
abbrev pub FitsContext : List EntryUpdate → List ℕ × RoomyContext → Type 0
FitsContext shifts entry = HasRoomFor (length shifts) entry.1

abbrev pub AreRoomy : List (List EntryUpdate) → List (List ℕ × RoomyContext) → Type 0
AreRoomy turns contexts = EachFits FitsContext turns contexts

abbrev pub IsRoomySeat : List (List EntryUpdate) → RoomyOccupant → Type 0
IsRoomySeat turns occupant = AreRoomy turns (table.entries occupant.contexts)

abbrev pub FitsSeat : List (List EntryUpdate) → ℕ × RoomyOccupant → Type 0
FitsSeat turns entry = IsRoomySeat turns entry.1

abbrev pub AreRoomySeats : List (List (List EntryUpdate)) → List (ℕ × RoomyOccupant) → Type 0
AreRoomySeats turns seats = EachFits FitsSeat turns seats

abbrev pub HasRoom : Prepared → RoomySeats → Type 0
HasRoom delta seats = AreRoomySeats delta.seats (table.entries seats.seats)
