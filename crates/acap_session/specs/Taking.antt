-- Runs in which what was said is taken from seats: nothing else depends on when [RFC 2244 section 2].
use Rattle.std.specs.Prelude.{◌≡◌, ℕ, ◌==◌, List, [], ◌∷◌, ◌++◌, Option, option_map, if◌then◌else◌}
use Rattle.acap_dialogue.specs.Talking.{Talking}
use Rattle.acap_session.specs.Laws.{own_of}
use Rattle.acap_session.specs.Live.{told_in}
use Rattle.acap_session.specs.Places.{place_at}
use Rattle.acap_session.specs.World.{World, Step, did, world_after, output_taken, said_before}

-- a step is made, or what was said at a seat is taken
pub data Act : Type 0 where
  Makes : Step → Act
  Takes : ℕ → Act

abbrev pub acted : Act → World → World
acted (Makes x) w = did x.occasion x.refused x.action w
acted (Takes seat) w = output_taken w seat

abbrev pub world_acted : List Act → World → World
world_acted [] w = w
world_acted (x ∷ xs) w = world_acted xs (acted x w)

-- the steps among them
abbrev pub steps_among : List Act → List Step
steps_among [] = []
steps_among (Makes x ∷ xs) = x ∷ steps_among xs
steps_among (Takes seat ∷ xs) = steps_among xs

-- what is said at a seat and isn't taken, and how its session stands
abbrev pub said_at : World → ℕ → List ℕ
said_at w seat = said_before (place_at w.places seat)

abbrev pub talk_at : World → ℕ → Option Talking
talk_at w seat = option_map (λ place. place.talk) (place_at w.places seat)

-- all that is taken from a seat, joined
abbrev pub taken_by : ℕ → Act → World → List ℕ
taken_by seat (Makes x) w = []
taken_by seat (Takes other) w = if other == seat then said_at w seat else []

abbrev pub taken_in : ℕ → List Act → World → List ℕ
taken_in seat [] w = []
taken_in seat (x ∷ xs) w = taken_by seat x w ++ taken_in seat xs (acted x w)

-- two worlds are the same, but that so much was taken from each seat of the second
pub record IsTakenFrom (taken : ℕ → List ℕ) (w v : World) : Type 0 where
  pub machine : v.machine ≡ w.machine
  pub users : v.users ≡ w.users
  pub host : v.host ≡ w.host
  pub talks : (seat : ℕ) → talk_at w seat ≡ talk_at v seat
  pub said : (seat : ℕ) → said_at w seat ≡ taken seat ++ said_at v seat

pub record TakingLaw : Type 0 where
  -- the machine and the sessions are those of the run without takings, and its octets are those that were
  -- taken and then those that are left
  pub left : (acts : List Act) (w : World) →
      IsTakenFrom (λ seat. taken_in seat acts w) (world_after (steps_among acts) w) (world_acted acts w)
  -- and so is what each further step asks of the machine, and is answered
  pub own : (acts : List Act) (x : Step) (w : World) →
      own_of (world_acted acts w) x ≡ own_of (world_after (steps_among acts) w) x
  pub told : (acts : List Act) (x : Step) (w : World) →
      told_in (world_acted acts w) x ≡ told_in (world_after (steps_among acts) w) x
