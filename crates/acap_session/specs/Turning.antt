-- One session and the machine: what a turn, a drain and an end make of them [RFC 2244 section 2].
use Rattle.std.specs.Prelude.{◌≡◌, ◌⊎◌, ℕ, List, Vec, Bool, true, false, ◌||◌, is_ok, MatchResult, Result}
use Rattle.std.specs.Prelude.{Err}
use Rattle.std.specs.declared.alloc.Global.{Global}
use Rattle.std.specs.declared.alloc.AllocError.{AllocError as Memory}
use Rattle.acap_login.specs.Login.{User}
use Rattle.acap_commands.specs.declared.reply.Reply.{Reply}
use Rattle.acap_machine.specs.Machine.{Machine, Roomed}
use Rattle.acap_machine.specs.Runs.{outcome_of, machine_after}
use Rattle.acap_machine.specs.Stepping.{step_of}
use Rattle.acap_commands.specs.declared.event.Event.{Event}
use Rattle.acap_commands.specs.declared.event.Event.TheVariants as events
use Rattle.acap_commands.specs.declared.event.Fault.{Fault}
use Rattle.acap_commands.specs.declared.event.Fault.TheVariants as fault
use Rattle.acap_dialogue.specs.Saying.{with_said, heard_of}
use Rattle.acap_dialogue.specs.Session.{session_next, session_drain, after_answer, has_seat}
use Rattle.acap_dialogue.specs.Talking.{Talking}
use Rattle.acap_dialogue.specs.declared.next.Heard.{Heard}
use Rattle.acap_dialogue.specs.declared.next.Heard.TheVariants as heard
use Rattle.acap_dialogue.specs.declared.next.Next.{Next}
use Rattle.acap_dialogue.specs.declared.next.Next.TheVariants as next
use Rattle.acap_session.specs.Places.{SeatSession}
use Rattle.acap_session.specs.declared.occasion.Occasion.{Occasion}
use Rattle.acap_dialogue.specs.declared.stage.Stage.TheVariants as stage
use Rattle.acap_session.specs.declared.occasion.Turn.{Turn}
use Rattle.acap_session.specs.declared.occasion.Turn.TheVariants as turn

-- the machine, one of its sessions, and what was said to its client and isn't taken yet
pub record Scene : Type 0 where
  pub machine : Machine
  pub talk : Talking
  pub out : List ℕ

abbrev pub scene : Machine → Talking → List ℕ → Scene
scene m t out = record { machine = m; talk = t; out = out }

-- an event at the session's seat; where it is refused memory the machine is as before
abbrev pub event_outcome : Bool → Machine → Occasion → Event → Result (Reply × Machine) Fault
event_outcome true m o event = Err fault.Memory
event_outcome false m o event = step_of m o.seat event o.clock

-- whether memory was refused
abbrev pub is_refused : Result Reply Fault → Bool
is_refused (Err fault.Memory) = true
is_refused other = false

-- a session that has its seat leaves it
abbrev pub left_by : Bool → Occasion → Machine → Machine
left_by true o m = machine_after m (step_of m o.seat events.Leave o.clock)
left_by false o m = m

-- it does when it is closed
abbrev pub left_at : Heard → Bool → Occasion → Machine → Machine
left_at heard.More seated o m = m
left_at heard.Said seated o m = m
left_at (heard.Asks event) seated o m = m
left_at heard.Closes seated o m = left_by seated o m

abbrev pub left_after : Next → Bool → Occasion → Machine → Machine
left_after n seated o m = left_at (heard_of n) seated o m

-- what a turn came to
abbrev pub turn_from : Heard → Turn
turn_from heard.More = turn.More
turn_from heard.Said = turn.Said
turn_from (heard.Asks event) = turn.More
turn_from heard.Closes = turn.Closed

abbrev pub turn_in : Next → Turn
turn_in n = turn_from (heard_of n)

abbrev pub turn_and_scene : Occasion → Bool → Machine → List ℕ → Next × Talking → Turn × Scene
turn_and_scene o seated m out x =
    (turn_in x.0, record { machine = left_after x.0 seated o m; talk = x.1; out = with_said out x.0 })

-- the event that a session asked is performed, and what it says to the answer is said
abbrev pub asked_of : Occasion → Bool → Machine → List ℕ → Talking → Event → Turn × Scene
asked_of o refused m out t event =
    let r = event_outcome refused m o event in
    turn_and_scene o (has_seat t || is_ok r) (machine_after m r) out (after_answer t (outcome_of r))

abbrev pub turn_by : Occasion → Bool → Scene → Next × Talking → Turn × Scene
turn_by o refused s (next.More, t) = turn_and_scene o (has_seat s.talk) s.machine s.out (next.More, t)
turn_by o refused s (next.Say octets, t) =
    turn_and_scene o (has_seat s.talk) s.machine s.out (next.Say octets, t)
turn_by o refused s (next.Ask event, t) = asked_of o refused s.machine s.out t event
turn_by o refused s (next.Close octets, t) =
    turn_and_scene o (has_seat s.talk) s.machine s.out (next.Close octets, t)

-- A turn of a session: what is next is said, or asked of the machine in one step and what it answers is said.
-- Whether that step is refused memory is given beforehand.
unfoldable pub turn_of : List User → Occasion → Bool → Scene → Turn × Scene
turn_of users o refused s = turn_by o refused s (session_next users o.nonce o.clock s.talk)

-- a drain: what is pending for the session's user is asked of the machine, if it may be, and said
unfoldable pub drain_of : Occasion → Bool → Scene → Turn × Scene
drain_of o refused s = turn_by o refused s (session_drain s.talk)

-- ---- words of the contracts: an event is refused memory, or none is

pub record IsTurn (users : List User) (o : Occasion) (old : Scene) (came : Turn) (new : Scene) : Type 0 where
  pub refused : Bool
  pub is : (came, new) ≡ turn_of users o refused old

pub record IsAsked (o : Occasion) (event : Event) (old : Scene) (came : Turn) (new : Scene) : Type 0 where
  pub refused : Bool
  pub is : (came, new) ≡ asked_of o refused old.machine old.out old.talk event

-- Where a session itself is refused memory it is closed without a word, and leaves its seat. An event that it
-- had asked stands.
pub record StandsBefore (o : Occasion) (event : Event) (t : Talking) (old : Machine) (new : Machine)
    : Type 0 where
  pub refused : Bool
  pub is :
      let r = event_outcome refused old o event in
      new ≡ left_by (has_seat t || is_ok r) o (machine_after old r)

abbrev pub IsCutFrom : Occasion → Scene → Next × Talking → Machine → Type 0
IsCutFrom o old (next.More, t) m = m ≡ left_by (has_seat old.talk) o old.machine
IsCutFrom o old (next.Say octets, t) m = m ≡ left_by (has_seat old.talk) o old.machine
IsCutFrom o old (next.Ask event, t) m =
    (m ≡ left_by (has_seat old.talk) o old.machine) ⊎ StandsBefore o event t old.machine m
IsCutFrom o old (next.Close octets, t) m = m ≡ left_by (has_seat old.talk) o old.machine

pub record WasCut (o : Occasion) (old : Scene) (x : Next × Talking) (new : Scene) : Type 0 where
  pub closed : new.talk.stage ≡ stage.Closed
  pub out_is : new.out ≡ old.out
  pub machine_is : IsCutFrom o old x new.machine

pub record CutInAsking (o : Occasion) (event : Event) (old : Scene) (new : Scene) : Type 0 where
  pub closed : new.talk.stage ≡ stage.Closed
  pub out_is : new.out ≡ old.out
  pub stands : StandsBefore o event old.talk old.machine new.machine

-- In sending what is pending too; the drain stands, where one could be asked for.
pub record CutInDraining (o : Occasion) (old : Scene) (new : Scene) : Type 0 where
  pub asked : (session_drain old.talk).0 ≡ next.Ask events.Drain
  pub closed : new.talk.stage ≡ stage.Closed
  pub out_is : new.out ≡ old.out
  pub machine_is :
      new.machine
      ≡ left_by true o (machine_after old.machine (step_of old.machine o.seat events.Drain o.clock))

-- a session without a word to its machine's answer: it is closed, and leaves its seat if it has it
pub record CutInAnswering (seated : Bool) (o : Occasion) (old : Scene) (new : Scene) : Type 0 where
  pub closed : new.talk.stage ≡ stage.Closed
  pub out_is : new.out ≡ old.out
  pub machine_is : new.machine ≡ left_by seated o old.machine

-- ---- by how a call ends, of the scene before and after it

abbrev pub TurnsTo : List User → Occasion → Scene → Scene → Result Turn Memory → Type 0
TurnsTo users o old new result =
    MatchResult result
    (λ came. IsTurn users o old came new)
    (λ memory. WasCut o old (session_next users o.nonce o.clock old.talk) new)

abbrev pub AsksTo : Occasion → Event → Scene → Scene → Result Turn Memory → Type 0
AsksTo o event old new result =
    MatchResult result (λ came. IsAsked o event old came new) (λ memory. CutInAsking o event old new)

-- where the asking is refused memory nothing was done
abbrev pub DrainsTo : Occasion → Scene → Scene → Result Turn Memory → Type 0
DrainsTo o old new result =
    MatchResult result
    (λ came. (came, new) ≡ drain_of o false old) (λ memory. (new ≡ old) ⊎ CutInDraining o old new)

-- a session that was let in has its seat
abbrev pub RepliesTo : Occasion → Result Reply Fault → Scene → Scene → Result Turn Memory → Type 0
RepliesTo o outcome old new result =
    let seated = has_seat old.talk || is_ok outcome in
    MatchResult result
    (λ came. (came, new) ≡ turn_and_scene o seated old.machine old.out (after_answer old.talk outcome))
    (λ memory. CutInAnswering seated o old new)

-- of the machine in memory, the session, and the octets to be written
abbrev pub Turns : List User → Occasion → Roomed → Talking → Vec ℕ Global → Roomed → Talking
    → Vec ℕ Global → Result Turn Memory → Type 0
Turns users o m t out n u more = TurnsTo users o (scene m.machine t out.items) (scene n.machine u more.items)

abbrev pub Asks : Occasion → Event → Roomed → Talking → Vec ℕ Global → Roomed → Talking → Vec ℕ Global
    → Result Turn Memory → Type 0
Asks o event m t out n u more = AsksTo o event (scene m.machine t out.items) (scene n.machine u more.items)

abbrev pub Drains : Occasion → Roomed → Talking → Vec ℕ Global → Roomed → Talking → Vec ℕ Global
    → Result Turn Memory → Type 0
Drains o m t out n u more = DrainsTo o (scene m.machine t out.items) (scene n.machine u more.items)

abbrev pub Replies : Occasion → Result Reply Fault → Roomed → Talking → Vec ℕ Global → Roomed → Talking
    → Vec ℕ Global → Result Turn Memory → Type 0
Replies o outcome m t out n u more =
    RepliesTo o outcome (scene m.machine t out.items) (scene n.machine u more.items)

-- of the machine in memory, and what stands at the seat
abbrev pub scene_at : Roomed → SeatSession → Scene
scene_at m place = scene m.machine place.talk place.out

abbrev pub TurnsAt : List User → Occasion → Roomed → SeatSession → Roomed → SeatSession
    → Result Turn Memory → Type 0
TurnsAt users o m old n new = TurnsTo users o (scene_at m old) (scene_at n new)

abbrev pub DrainsAt : Occasion → Roomed → SeatSession → Roomed → SeatSession → Result Turn Memory → Type 0
DrainsAt o m old n new = DrainsTo o (scene_at m old) (scene_at n new)

-- the first turn, in which nothing is refused memory
abbrev pub BeginsAt : List User → Occasion → Roomed → SeatSession → Roomed → SeatSession → Type 0
BeginsAt users o m old n new = scene_at n new ≡ (turn_of users o false (scene_at m old)).1
