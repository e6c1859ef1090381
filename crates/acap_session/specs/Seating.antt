-- Who has a seat of a world [RFC 2244 section 2].
use Rattle.std.specs.Prelude.{◌≡◌, ◌≢◌, ℕ, List, false, Option, Some, None, IsSome, Err, if◌then◌else◌}
use Rattle.acap_login.specs.Login.{User}
use Rattle.acap_machine.specs.Machine.{user_at}
use Rattle.acap_commands.specs.declared.event.Fault.TheVariants as fault
use Rattle.acap_rights.specs.declared.realm.Realm.{Realm}
use Rattle.acap_session.specs.Laws.{reply_of}
use Rattle.acap_session.specs.Places.{SeatSession, place_at}
use Rattle.acap_dialogue.specs.Session.{has_seat}
use Rattle.acap_session.specs.World as world
use Rattle.acap_session.specs.World.{Step, did, new_world, open_at, world_after}
use Rattle.acap_session.specs.declared.occasion.Occasion.{Occasion}

-- the user of the session that stands there, if it has entered and isn't closed
abbrev pub occupant_by : Option SeatSession → Option (List ℕ)
occupant_by None = None
occupant_by (Some place) = if has_seat place.talk then place.talk.user else None

-- After every run of a new world a seat has an occupant exactly where its session has entered. So the machine
-- answers no session that its seat is empty, or taken.
pub record SeatingLaw : Type 0 where
  pub occupied : (realm : Realm) (users : List User) (host : List ℕ) (steps : List Step) (seat : ℕ) →
      let w = world_after steps (new_world realm users host) in
      user_at w.machine seat ≡ occupant_by (place_at w.places seat)
  pub never_empty : (realm : Realm) (users : List User) (host : List ℕ) (steps : List Step) (x : Step) →
      let w = world_after steps (new_world realm users host) in
      reply_of w x (open_at w x.occasion.seat) ≢ Some (Err fault.NotEntered)
  pub never_taken : (realm : Realm) (users : List User) (host : List ℕ) (steps : List Step) (x : Step) →
      let w = world_after steps (new_world realm users host) in
      reply_of w x (open_at w x.occasion.seat) ≢ Some (Err fault.AlreadyEntered)
  -- and a session that opens at a seat where none is open is open then, where nothing is refused memory
  pub opens : (realm : Realm) (users : List User) (host : List ℕ) (steps : List Step) (o : Occasion)
      (user : Option (List ℕ)) →
      let w = world_after steps (new_world realm users host) in
      open_at w o.seat ≡ None → IsSome (open_at (did o false (world.Open user) w) o.seat)
