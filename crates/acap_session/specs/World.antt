-- The world: one machine, and the sessions of its seats. Its steps, and what a list of them comes to
-- [RFC 2244 section 2].
use Rattle.std.specs.Prelude.{◌≡◌, ◌⊎◌, ℕ, List, [], ◌∷◌, Bool, true, false, Option, Some, None, Result, Ok}
use Rattle.std.specs.Prelude.{Err, IsSome}
use Rattle.acap_login.specs.Login.{User}
use Rattle.std.specs.declared.alloc.AllocError.{AllocError as Memory}
use Rattle.acap_machine.specs.Machine.{Machine, Roomed, new_machine}
use Rattle.acap_rights.specs.declared.realm.Realm.{Realm}
use Rattle.acap_session.specs.Places.{SeatSession, Places, place_at, with_place, if_open}
use Rattle.acap_dialogue.specs.Session.{has_seat, is_closed, session_next}
use Rattle.acap_dialogue.specs.Talking.{Talking, beginning}
use Rattle.acap_dialogue.specs.Telling.{room_for, with_front}
use Rattle.acap_session.specs.Turning.{Scene, scene, turn_of, drain_of, left_by, CutInDraining, WasCut}
use Rattle.acap_session.specs.declared.occasion.Occasion.{Occasion}
use Rattle.acap_dialogue.specs.declared.stage.Stage.TheVariants as stage
use Rattle.acap_session.specs.declared.occasion.Turn.{Turn as Came}
use Rattle.acap_session.specs.declared.occasion.Turn.TheVariants as came
use Rattle.acap_session.specs.declared.world_fault.WorldFault.{WorldFault}
use Rattle.acap_session.specs.declared.world_fault.WorldFault.TheVariants as faults

-- the machine, what stands at each seat, from seat 0 on, who may log in, and the name of the host
pub record World : Type 0 where
  pub machine : Machine
  pub places : Places
  pub users : List User
  pub host : List ℕ

abbrev pub open_at : World → ℕ → Option SeatSession
open_at w seat = if_open (place_at w.places seat)

abbrev pub scene_of : World → SeatSession → Scene
scene_of w place = scene w.machine place.talk place.out

abbrev pub with_scene : World → ℕ → Scene → World
with_scene w seat s =
    record w {
      machine = s.machine;
      places = with_place w.places seat (record {
        talk = s.talk;
        out = s.out;
      });
    }

-- what a seat's session does to the world, if one is open there
abbrev pub at_open : World → ℕ → (Scene → Scene) → Option SeatSession → World
at_open w seat does None = w
at_open w seat does (Some place) = with_scene w seat (does (scene_of w place))

-- ---- steps

-- a session opens, of that user if there is one; it is given octets; it makes a turn; it is asked for what is
-- pending; it ends
pub data Action : Type 0 where
  Open : Option (List ℕ) → Action
  Piece : List ℕ → Action
  Turn : Action
  Drain : Action
  Leave : Action

-- what was said at a seat before and isn't taken yet
abbrev pub said_before : Option SeatSession → List ℕ
said_before None = []
said_before (Some place) = place.out

-- what was said at a seat is taken from there
abbrev pub taken_from : Places → ℕ → Option SeatSession → Places
taken_from places seat None = places
taken_from places seat (Some place) = with_place places seat (record place { out = [] })

abbrev pub output_taken : World → ℕ → World
output_taken w seat = record w { places = taken_from w.places seat (place_at w.places seat) }

-- how many octets of a piece are taken
abbrev pub room_of : Talking → List ℕ → ℕ
room_of t piece = room_for t piece

-- a session with the first `n` octets of a piece after those that it holds
abbrev pub with_octets : Talking → ℕ → List ℕ → Talking
with_octets t n piece = with_front t n piece

-- what stands at a seat, so
abbrev pub holding : SeatSession → ℕ → List ℕ → SeatSession
holding place n piece = record place { talk = with_octets place.talk n piece }

abbrev pub takes : List ℕ → Scene → Scene
takes piece s = record s { talk = with_octets s.talk (room_of s.talk piece) piece }

-- a session ends, and leaves its seat if it has it
abbrev pub ends : Occasion → Scene → Scene
ends o s =
    record s {
      machine = left_by (has_seat s.talk) o s.machine;
      talk = record s.talk {
        stage = stage.Closed;
      };
    }

-- a session opens where none is open, and makes its first turn
abbrev pub opened_at : World → Occasion → Bool → Option (List ℕ) → Option SeatSession → World
opened_at w o refused user (Some place) = w
opened_at w o refused user None =
    with_scene w o.seat
    (turn_of w.users o refused (scene w.machine (beginning w.host user) (said_before (place_at w.places
    o.seat)))).1

-- One step of the world on an occasion. Whether the event that it may ask is refused memory is given
-- beforehand.
unfoldable pub did : Occasion → Bool → Action → World → World
did o refused (Open user) w = opened_at w o refused user (open_at w o.seat)
did o refused (Piece octets) w = at_open w o.seat (takes octets) (open_at w o.seat)
did o refused Turn w = at_open w o.seat (λ s. (turn_of w.users o refused s).1) (open_at w o.seat)
did o refused Drain w = at_open w o.seat (λ s. (drain_of o refused s).1) (open_at w o.seat)
did o refused Leave w = at_open w o.seat (ends o) (open_at w o.seat)

-- a list of steps, one after the other
pub record Step : Type 0 where
  pub occasion : Occasion
  pub refused : Bool
  pub action : Action

abbrev pub world_after : List Step → World → World
world_after [] w = w
world_after (x ∷ xs) w = world_after xs (did x.occasion x.refused x.action w)

-- the world before its first step
abbrev pub new_world : Realm → List User → List ℕ → World
new_world realm users host = record { machine = new_machine realm; places = []; users = users; host = host }

-- ---- words of the contracts

-- the step was made, its event being refused memory or not
pub record IsStep (o : Occasion) (action : Action) (old new : World) : Type 0 where
  pub refused : Bool
  pub is : new ≡ did o refused action old

-- The session of a seat was refused memory: it is closed without a word, and all other seats are as they
-- were.
pub record IsCutAt (o : Occasion) (Cut : Scene → Type 0) (old new : World) : Type 0 where
  pub after : Scene
  pub cut : Cut after
  pub is : new ≡ with_scene old o.seat after

-- whether a turn came to anything, so that another may
abbrev pub went_on : Came → Bool
went_on came.More = false
went_on came.Said = true
went_on came.Closed = true

-- what a turn of a seat's session answers and leaves
pub record HasTurnedAt (o : Occasion) (goes : Bool) (old new : World) : Type 0 where
  pub place : SeatSession
  pub there : open_at old o.seat ≡ Some place
  pub refused : Bool
  pub is : new ≡ did o refused Turn old
  pub came : goes ≡ went_on (turn_of old.users o refused (scene_of old place)).0

-- no such call says that a seat is taken
abbrev pub Turns : Occasion → World → World → Result Bool WorldFault → Type 0
Turns o old new (Ok goes) = HasTurnedAt o goes old new
Turns o old new (Err faults.NoSeat) = (open_at old o.seat ≡ None) × (new ≡ old)
Turns o old new (Err faults.Taken) = ⊥
Turns o old new (Err faults.Memory) = (place : SeatSession) × (open_at old o.seat ≡ Some place)
    × IsCutAt o (WasCut o (scene_of old place) (session_next old.users o.nonce o.clock place.talk)) old new

-- What asking for what is pending answers and leaves, where it isn't refused memory: the drain was made.
-- Where it is, nothing was done, and the session stays open; or the drain stands, and the session is closed
-- in reporting it.
abbrev pub Drains : Occasion → World → World → Result (Unit {0}) WorldFault → Type 0
Drains o old new (Ok done) = IsSome (open_at old o.seat) × (new ≡ did o false Drain old)
Drains o old new (Err faults.NoSeat) = (open_at old o.seat ≡ None) × (new ≡ old)
Drains o old new (Err faults.Taken) = ⊥
Drains o old new (Err faults.Memory) = (place : SeatSession) × (open_at old o.seat ≡ Some place)
    × ((new ≡ old) ⊎ IsCutAt o (CutInDraining o (scene_of old place)) old new)

-- What the opening of a session answers and leaves: it is open, and nothing was refused memory; where
-- something was, nothing was done.
abbrev pub Opens : Occasion → Option (List ℕ) → World → World → Result (Unit {0}) WorldFault → Type 0
Opens o user old new (Ok done) =
    (open_at old o.seat ≡ None) × (new ≡ did o false (Open user) old) × IsSome (open_at new o.seat)
Opens o user old new (Err faults.NoSeat) = ⊥
Opens o user old new (Err faults.Taken) = IsSome (open_at old o.seat) × (new ≡ old)
Opens o user old new (Err faults.Memory) = (open_at old o.seat ≡ None) × (new ≡ old)

-- a session stands at its seat, open, and has made its first turn, in which nothing was refused memory
pub record HasBegun (users : List User) (o : Occasion) (old : Scene) (standing : Option SeatSession)
    (m : Machine) : Type 0 where
  pub place : SeatSession
  pub stands : standing ≡ Some place
  pub made : scene m place.talk place.out ≡ (turn_of users o false old).1
  pub going : is_closed place.talk.stage ≡ false

-- or where memory was refused nothing was done
abbrev pub Begins : List User → Occasion → Talking → Roomed → Option SeatSession → Roomed
    → Option SeatSession → Result (Unit {0}) Memory → Type 0
Begins users o t m old n new (Ok done) = HasBegun users o (scene m.machine t (said_before old)) new n.machine
Begins users o t m old n new (Err memory) = (new ≡ old) × (n.machine ≡ m.machine)

-- what giving octets to a seat's session answers and leaves, whatever the clock shows: it takes as many as it
-- has room for, or none
abbrev pub Feeds : ℕ → List ℕ → World → World → Result ℕ WorldFault → Type 0
Feeds seat octets old new (Ok n) =
    (place : SeatSession)
    × (open_at old seat ≡ Some place)
    × (n ≡ room_of place.talk octets)
    × ((o : Occasion) → o.seat ≡ seat → IsStep o (Piece octets) old new)
Feeds seat octets old new (Err faults.NoSeat) = (open_at old seat ≡ None) × (new ≡ old)
Feeds seat octets old new (Err faults.Taken) = ⊥
Feeds seat octets old new (Err faults.Memory) = IsSome (open_at old seat) × (new ≡ old)

-- what the end of a seat's session answers and leaves
abbrev pub Leaves : Occasion → World → World → Result (Unit {0}) WorldFault → Type 0
Leaves o old new (Ok done) = IsSome (open_at old o.seat) × IsStep o Leave old new
Leaves o old new (Err faults.NoSeat) = (open_at old o.seat ≡ None) × (new ≡ old)
Leaves o old new (Err faults.Taken) = ⊥
Leaves o old new (Err faults.Memory) = ⊥
