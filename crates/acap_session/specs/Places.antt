-- What stands at each seat of a world.
use Rattle.std.specs.Prelude.{ℕ, zero, suc, List, [], ◌∷◌, Option, Some, None, if◌then◌else◌}
use Rattle.acap_dialogue.specs.Session.{is_closed}
use Rattle.acap_dialogue.specs.Talking.{Talking}

-- the session of a seat, and what was said to its client and isn't taken yet
pub record SeatSession : Type 0 where
  pub talk : Talking
  pub out : List ℕ

-- what stands at each seat, from seat 0 on
abbrev pub Places : Type 0
Places = List (Option SeatSession)

abbrev pub place_at : Places → ℕ → Option SeatSession
place_at [] seat = None
place_at (x ∷ xs) zero = x
place_at (x ∷ xs) (suc seat) = place_at xs seat

-- the same with that at a seat
abbrev pub with_place : Places → ℕ → SeatSession → Places
with_place [] zero place = Some place ∷ []
with_place [] (suc seat) place = None ∷ with_place [] seat place
with_place (x ∷ xs) zero place = Some place ∷ xs
with_place (x ∷ xs) (suc seat) place = x ∷ with_place xs seat place

-- the same with places up to a seat
abbrev pub places_up_to : Places → ℕ → Places
places_up_to [] zero = None ∷ []
places_up_to [] (suc seat) = None ∷ places_up_to [] seat
places_up_to (x ∷ xs) zero = x ∷ xs
places_up_to (x ∷ xs) (suc seat) = x ∷ places_up_to xs seat

-- what stands at a seat, with that said there
abbrev pub saying : List ℕ → Option SeatSession → Option SeatSession
saying said None = None
saying said (Some place) = Some (record place { out = said })

-- a session that is open: one that isn't closed
abbrev pub if_open : Option SeatSession → Option SeatSession
if_open None = None
if_open (Some place) = if is_closed place.talk.stage then None else Some place
