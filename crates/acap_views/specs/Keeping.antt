-- The contexts of all seats as they are kept in memory: each beside the room of its lists, and each map
-- beside the number of values more that there is room for. Machines are told apart by the contexts alone.
use Rattle.std.specs.Prelude.{ℕ, List, refl}
use Rattle.std.specs.Coded.{Coded, code_by, coded×, coded_list, coded_ℕ}
use Rattle.std.specs.FinMap as table
use Rattle.std.specs.Ordering.{nat_cmp}
use Rattle.acap_entries.specs.Orders.{octets_cmp}
use Rattle.acap_views.specs.Contexts.{Context, Contexts, context_code}
use Rattle.acap_views.specs.Maps.{each_value}
use Rattle.acap_views.specs.Room.{Space, space_code}
use Rattle.acap_views.specs.Seats.{Occupant, Seated}

pub record RoomyContext : Type 0 where
  pub context : Context
  pub space : Space

abbrev pub RoomyContexts : Type 0
RoomyContexts = table.FinMap octets_cmp RoomyContext

pub record RoomyOccupant : Type 0 where
  pub user : List ℕ
  pub contexts : RoomyContexts
  pub spare : ℕ

pub record RoomySeats : Type 0 where
  pub seats : table.FinMap nat_cmp RoomyOccupant
  pub spare : ℕ

-- the same without the room
abbrev pub contexts_in : RoomyContexts → Contexts
contexts_in contexts = each_value (λ kept. kept.context) contexts

abbrev pub occupant_in : RoomyOccupant → Occupant
occupant_in occupant = record { user = occupant.user; contexts = contexts_in occupant.contexts }

abbrev pub seats_in : RoomySeats → Seated
seats_in seats = each_value occupant_in seats.seats

-- how they are told apart in proofs
abbrev pub roomy_context_code : Coded RoomyContext
roomy_context_code =
    code_by (Context × Space) (coded× context_code space_code) (λ c. (c.context, c.space))
    (λ p. record { context = p.0; space = p.1 }) (λ _. refl)

abbrev pub roomy_occupant_code : Coded RoomyOccupant
roomy_occupant_code =
    code_by (List ℕ × (RoomyContexts × ℕ))
    (coded× (coded_list coded_ℕ) (coded× (table.code (coded_list coded_ℕ) roomy_context_code) coded_ℕ))
    (λ o. (o.user, (o.contexts, o.spare))) (λ p. record { user = p.0; contexts = p.1.0; spare = p.1.1 })
    (λ _. refl)

abbrev pub roomy_seats_code : Coded RoomySeats
roomy_seats_code =
    code_by (table.FinMap nat_cmp RoomyOccupant × ℕ) (coded× (table.code coded_ℕ roomy_occupant_code) coded_ℕ)
    (λ s. (s.seats, s.spare)) (λ p. record { seats = p.0; spare = p.1 }) (λ _. refl)
