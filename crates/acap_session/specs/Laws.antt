-- Laws of the definitions: how a client's octets are cut makes no difference, and a session depends on the
-- others through the machine's replies alone [RFC 2244 section 2].
use Rattle.std.specs.Prelude.{◌≡◌, ◌≢◌, ◌⊎◌, ℕ, pos, List, [], ◌∷◌, ◌++◌, ◌==◌, length, map, replicate}
use Rattle.std.specs.Prelude.{flat_map, Bool, true, false, Option, Some, None, option_map, Result, Ok}
use Rattle.std.specs.Prelude.{if◌then◌else◌}
use Rattle.std.specs.List.{list_any}
use Rattle.std.specs.Option.{option_and_then, option_map_or, option_or}
use Rattle.acap_grammar.specs.Replies.{octets_of}
use Rattle.acap_commands.specs.declared.refusal.Refusal.TheVariants as refusals
use Rattle.acap_commands.specs.declared.reply.Reply.{Reply}
use Rattle.acap_commands.specs.declared.said.Said.TheVariants as said
use Rattle.acap_login.specs.Login.{User}
use Rattle.acap_machine.specs.Machine.{Machine}
use Rattle.acap_machine.specs.Runs.{machine_after, outcome_of, run_of}
use Rattle.acap_machine.specs.Stepping.{step_of}
use Rattle.acap_machine.specs.declared.step.Step.{Step as MachineStep}
use Rattle.acap_commands.specs.declared.event.Event.{Event}
use Rattle.acap_commands.specs.declared.event.Event.TheVariants as events
use Rattle.acap_commands.specs.declared.event.Fault.{Fault}
use Rattle.acap_session.specs.Piping.{Fed, IsWritten, always, after_enter, after_piece, hears}
use Rattle.acap_session.specs.Places.{SeatSession, place_at, if_open}
use Rattle.acap_session.specs.Script.{IsQuiet}
use Rattle.acap_dialogue.specs.Running as alone
use Rattle.acap_dialogue.specs.Running.{At, Call, Did, Outcome, asked_in, calls_in, leaves_in, start}
use Rattle.acap_dialogue.specs.Session.{has_seat, session_next}
use Rattle.acap_dialogue.specs.Talking.{Talking}
use Rattle.acap_session.specs.Turning.{Scene, turn_of, event_outcome}
use Rattle.acap_session.specs.World as world
use Rattle.acap_session.specs.World.{World, Action, Step, did, world_after, open_at, scene_of, with_scene}
use Rattle.acap_session.specs.World.{room_of, said_before, went_on}
use Rattle.acap_dialogue.specs.declared.next.Next.{Next}
use Rattle.acap_dialogue.specs.declared.next.Next.TheVariants as next
use Rattle.acap_session.specs.declared.occasion.Occasion.{Occasion}
use Rattle.acap_dialogue.specs.declared.stage.Stage.{Stage}
use Rattle.acap_dialogue.specs.declared.stage.Stage.TheVariants as stage
use Rattle.acap_session.specs.declared.occasion.Turn.{Turn as Came}
use Rattle.acap_session.specs.declared.occasion.Turn.TheVariants as came

-- ---- how a client's octets are cut

-- An open session takes two pieces as it takes them joined, whatever there is room for, and whenever the
-- second comes.
abbrev pub PiecesJoin : Type 0
PiecesJoin = (o later : Occasion) (refused again : Bool) (a b : List ℕ) (w : World) → later.seat ≡ o.seat →
    did later again (world.Piece b) (did o refused (world.Piece a) w) ≡ did o refused (world.Piece (a ++ b)) w

-- the session that is open, if one is, has room for all of a piece
abbrev pub HasRoomFor : List ℕ → Option SeatSession → Type 0
HasRoomFor piece None = Unit {0}
HasRoomFor piece (Some place) = room_of place.talk piece ≡ length piece

-- a session without the octets that it holds
abbrev pub without_octets : Scene → Scene
without_octets s = record s { talk = record s.talk { held = record s.talk.held { text = [] } } }

abbrev pub with_emptied : World → ℕ → Option SeatSession → World
with_emptied w seat None = w
with_emptied w seat (Some place) = with_scene w seat (without_octets (scene_of w place))

-- Two worlds are the same; or a seat's session is closed in both, and they are the same without the octets
-- that it holds, which nothing reads.
abbrev pub Alike : ℕ → World → World → Type 0
Alike seat v w = (v ≡ w) ⊎ ((open_at v seat ≡ None) × (open_at w seat ≡ None)
    × (with_emptied v seat (place_at v.places seat) ≡ with_emptied w seat (place_at w.places seat)))

-- what a turn comes to, if a session is open
abbrev pub came_of : Occasion → Bool → World → Option Came
came_of o refused w =
    option_map (λ place. (turn_of w.users o refused (scene_of w place)).0) (open_at w o.seat)

-- A turn that comes to something comes to the same where more octets stand after those held, and leaves the
-- same with these octets after, where there is room for them before and after.
abbrev pub IsKept : Occasion → Occasion → Bool → Bool → List ℕ → World → Type 0
IsKept o later refused again octets w =
    let more = did later again (world.Piece octets) w in
    let after = did o refused world.Turn w in
    HasRoomFor octets (open_at w o.seat) → HasRoomFor octets (open_at after o.seat)
    → option_map went_on (came_of o refused w) ≡ Some true →
    (came_of o refused more ≡ came_of o refused w)
    × Alike o.seat (did o refused world.Turn more) (did later again (world.Piece octets) after)

abbrev pub TurnsKeep : Type 0
TurnsKeep =
    (o later : Occasion) (refused again : Bool) (octets : List ℕ) (w : World) → later.seat ≡ o.seat
    → IsKept o later refused again octets w

-- octets come to a session, or it makes a turn
pub data Move : Type 0 where
  Comes : List ℕ → Move
  Turns : Move

abbrev pub action_of : Move → Action
action_of (Comes octets) = world.Piece octets
action_of Turns = world.Turn

abbrev pub octets_in : Move → List ℕ
octets_in (Comes octets) = octets
octets_in Turns = []

-- all octets that come
abbrev pub octets_of_moves : List Move → List ℕ
octets_of_moves moves = flat_map octets_in moves

-- on one occasion, no event being refused memory
abbrev pub steps_on : Occasion → List Move → List Step
steps_on o moves = map (λ move. record { occasion = o; refused = false; action = action_of move }) moves

-- each piece finds room where it comes, however many octets come in all
abbrev pub HaveRoom : Occasion → List Move → World → Type 0
HaveRoom o [] w = Unit {0}
HaveRoom o (Comes octets ∷ moves) w =
    HasRoomFor octets (open_at w o.seat) × HaveRoom o moves (did o false (world.Piece octets) w)
HaveRoom o (Turns ∷ moves) w = HaveRoom o moves (did o false world.Turn w)

-- octets came to a seat's session, with turns between and after them until nothing is next
pub record IsHeard (o : Occasion) (moves : List Move) (old new : World) : Type 0 where
  pub room : HaveRoom o moves old
  pub is : new ≡ world_after (steps_on o moves) old
  pub quiet : IsQuiet o new

-- However octets are cut, and wherever turns stand between them: where all turns were made the end is one and
-- the same, with all that was said.
abbrev pub CuttingLaw : Type 0
CuttingLaw =
    (o : Occasion) (a b : List Move) (old v w : World) → octets_of_moves a ≡ octets_of_moves b
    → IsHeard o a old v → IsHeard o b old w → Alike o.seat v w

-- some turns after all octets as one piece
abbrev pub as_one : List ℕ → ℕ → List Move
as_one octets n = Comes octets ∷ replicate n Turns

-- What comes of octets in pieces comes of them as one piece, if there is room for that, and some turns.
abbrev pub IsJoined : Occasion → List Move → World → World → Type 0
IsJoined o moves new old =
    HasRoomFor (octets_of_moves moves) (open_at old o.seat)
    → (n : ℕ) × (end : World) × IsHeard o (as_one (octets_of_moves moves) n) old end × Alike o.seat new end

abbrev pub JoiningLaw : Type 0
JoiningLaw =
    (o : Occasion) (moves : List Move) (old new : World) → IsHeard o moves old new → IsJoined o moves new old

-- ---- a session alone

-- a step of a session, and what the event that it asks, and a Leave after it, are answered, where they are
-- made
pub record OwnStep : Type 0 where
  pub occasion : Occasion
  pub action : Action
  pub asked : Outcome
  pub left : Outcome

-- what is done: a session that opens makes a turn
abbrev pub did_of : Occasion → Action → Outcome → Outcome → Did
did_of o (world.Open user) asked left = alone.Turn o.clock o.nonce asked left
did_of o (world.Piece octets) asked left = alone.Piece octets
did_of o world.Turn asked left = alone.Turn o.clock o.nonce asked left
did_of o world.Drain asked left = alone.Drain o.clock asked left
did_of o world.Leave asked left = alone.Leave o.clock left

abbrev pub did_in : OwnStep → Did
did_in x = did_of x.occasion x.action x.asked x.left

-- how the session of a place stands; what stands at the place then
abbrev pub at_place : SeatSession → At
at_place place = record { talk = place.talk; out = place.out; seated = has_seat place.talk }

abbrev pub place_in : At → SeatSession
place_in at = record { talk = at.talk; out = at.out }

-- Whose step it is, by what stands at its seat, and by that again if it is open: the session's that is open,
-- or, where none is, that of one which opens after what was said there.
abbrev pub maker : List ℕ → Action → Option SeatSession → Option SeatSession → Option At
maker host (world.Open user) old None = Some (record (start host user) { out = said_before old })
maker host (world.Open user) old (Some place) = None
maker host action old None = None
maker host action old (Some place) = Some (at_place place)

-- A step of a session makes this of what stands at its seat. There is no machine.
unfoldable pub own : List User → List ℕ → OwnStep → Option SeatSession → Option SeatSession
own users host x old =
    option_or
    (option_map place_in (option_and_then (alone.did users (did_in x)) (maker host x.action old (if_open
    old)))) old

abbrev pub own_run : List User → List ℕ → List OwnStep → Option SeatSession → Option SeatSession
own_run users host [] old = old
own_run users host (x ∷ xs) old = own_run users host xs (own users host x old)

-- whose step it is in a world, by the session that is open
abbrev pub maker_in : World → Step → Option SeatSession → Option At
maker_in w x now = maker w.host x.action (place_at w.places x.occasion.seat) now

-- the event that it asks, if it asks one
abbrev pub asked_by : World → Step → Option SeatSession → Option Event
asked_by w x now =
    option_and_then (λ at. asked_in w.users (did_of x.occasion x.action None None) at.talk) (maker_in w x now)

-- what the machine answers to it, and the machine then
abbrev pub reply_to : World → Step → Option Event → Outcome
reply_to w x asks = option_map (λ event. outcome_of (event_outcome x.refused w.machine x.occasion event)) asks

abbrev pub reply_of : World → Step → Option SeatSession → Outcome
reply_of w x now = reply_to w x (asked_by w x now)

abbrev pub machine_by : World → Step → Option Event → Machine
machine_by w x None = w.machine
machine_by w x (Some event) = machine_after w.machine (event_outcome x.refused w.machine x.occasion event)

-- and to a Leave after it, if one is made
abbrev pub leave_of : Bool → Machine → Occasion → Outcome
leave_of true m o = Some (outcome_of (step_of m o.seat events.Leave o.clock))
leave_of false m o = None

abbrev pub left_of : World → Step → Option SeatSession → Outcome
left_of w x now =
    let step = did_of x.occasion x.action (reply_of w x now) None in
    leave_of
    (option_map_or (leaves_in w.users step) (maker_in w x now) false)
    (machine_by w x (asked_by w x now)) x.occasion

-- a step with what the machine of a world answers, by the session that is open
abbrev pub own_at : World → Step → Option SeatSession → OwnStep
own_at w x now =
    record { occasion = x.occasion; action = x.action; asked = reply_of w x now; left = left_of w x now }

abbrev pub own_of : World → Step → OwnStep
own_of w x = own_at w x (open_at w x.occasion.seat)

-- the steps of a seat in a run, with what the machine answered there
abbrev pub own_steps : ℕ → List Step → World → List OwnStep
own_steps seat [] w = []
own_steps seat (x ∷ xs) w =
    let rest = own_steps seat xs (did x.occasion x.refused x.action w) in
    if x.occasion.seat == seat then own_of w x ∷ rest else rest

-- A step leaves what stands at every other seat, and who may log in where.
abbrev pub OthersStay : Type 0
OthersStay = (x : Step) (w : World) → let v = did x.occasion x.refused x.action w in
    ((seat : ℕ) → seat ≢ x.occasion.seat → place_at v.places seat ≡ place_at w.places seat)
    × (v.users ≡ w.users)
    × (v.host ≡ w.host)

-- At its own seat a step makes what the session makes of the machine's answer.
abbrev pub StepAlone : Type 0
StepAlone = (x : Step) (w : World) →
    place_at (did x.occasion x.refused x.action w).places x.occasion.seat
    ≡ own w.users w.host (own_of w x) (place_at w.places x.occasion.seat)

-- what events were answered with, and the same events as steps of the machine
abbrev pub replies_in : List Call → List (Result Reply Fault)
replies_in calls = map (λ call. Ok call.reply) calls

abbrev pub steps_in : ℕ → List Call → List MachineStep
steps_in seat calls = map (λ call. record { seat = seat; event = call.event; clock = call.clock }) calls

-- A step of a session makes one world of another: the session alone can make it; what it comes to stands at
-- the seat; and the events that were answered with replies lead the machine to where it is then, and have
-- these replies on the way.
pub record IsOwnStep (x : OwnStep) (at : At) (old new : World) : Type 0 where
  pub end : At
  pub is : alone.did old.users (did_in x) at ≡ Some end
  pub seated : end.seated ≡ has_seat end.talk
  pub stands : place_at new.places x.occasion.seat ≡ Some (place_in end)
  pub machine : let calls = calls_in old.users (did_in x) at in
      run_of old.machine (steps_in x.occasion.seat calls) ≡ (replies_in calls, new.machine)

-- what is no session's step leaves the world as it was
abbrev pub IsStepOf : OwnStep → Option At → World → World → Type 0
IsStepOf x None old new = new ≡ old
IsStepOf x (Some at) old new = IsOwnStep x at old new

-- One step of a world is one step of the session at its seat, with the machine's own answers.
abbrev pub SessionLaw : Type 0
SessionLaw = (x : Step) (w : World) →
    IsStepOf (own_of w x) (maker_in w x (open_at w x.occasion.seat)) w (did x.occasion x.refused x.action w)

-- What stands at a seat after a run, with all that was said there, comes of the steps of that seat and of
-- what the machine answered to them.
abbrev pub AloneLaw : Type 0
AloneLaw = (seat : ℕ) (steps : List Step) (w : World) →
    place_at (world_after steps w).places seat
    ≡ own_run w.users w.host (own_steps seat steps w) (place_at w.places seat)

-- ---- what is written where events are refused memory

-- the tag of the command that a session awaits an answer to
abbrev pub IsUnder : Option (List ℕ) → Stage → Type 0
IsUnder tag (stage.Asked other) = other ≡ tag
IsUnder tag (stage.LoggingIn other user) = other ≡ tag
IsUnder tag other = ⊥

-- A turn whose event is refused memory says so under the tag of its command, and leaves the machine as it
-- was.
abbrev pub RefusedTurns : Type 0
RefusedTurns =
    (users : List User) (o : Occasion) (s : Scene) (event : Event) (t : Talking) (tag : Option (List ℕ)) →
    session_next users o.nonce o.clock s.talk ≡ (next.Ask event, t) → IsUnder tag t.stage →
    turn_of users o true s
    ≡ (
      came.Said,
      record s {
        talk = record t { stage = stage.Ready };
        out = s.out ++ octets_of (record {
          tag = tag;
          said = said.Refused refusals.Memory;
        });
      },
    )

-- whether the event that a turn asks is refused, if it asks one, before those after it
abbrev pub told_first : Bool → Next → List Bool → List Bool
told_first refused (next.Ask event) more = refused ∷ more
told_first refused other more = more

-- which of the events that turns ask are refused memory, in their order
abbrev pub refused_in : List User → List Bool → Scene → List Bool
refused_in users [] s = []
refused_in users (refused ∷ more) s =
    told_first refused
    (session_next users 0 (pos 0) s.talk).0 (refused_in users more (turn_of users always refused s).1)

-- and those that pieces with their turns ask
abbrev pub refused_of : List User → List Fed → Scene → List Bool
refused_of users [] s = []
refused_of users (x ∷ pieces) s =
    refused_in users x.1 (hears x.0 s) ++ refused_of users pieces (after_piece users x s)

-- What is written is determined by what was read and by which of the events were refused memory, in their
-- order; and by what was read alone where none was.
pub record WrittenLaw : Type 0 where
  pub by_refused : (user read a b : List ℕ) (x : IsWritten user read a) (y : IsWritten user read b) →
      refused_of [] x.pieces (after_enter user) ≡ refused_of [] y.pieces (after_enter user) → a ≡ b
  pub by_none : (user read a b : List ℕ) (x : IsWritten user read a) (y : IsWritten user read b) →
      list_any (λ refused. refused) (refused_of [] x.pieces (after_enter user)) ≡ false →
      list_any (λ refused. refused) (refused_of [] y.pieces (after_enter user)) ≡ false → a ≡ b
