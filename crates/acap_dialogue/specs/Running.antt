-- One session's run, the machine's answers being handed in: its steps, what they come to, and what they use
-- [RFC 2244 section 2].
use Rattle.std.specs.Prelude.{◌≡◌, ℕ, ℤ, ◌+◌, List, [], ◌∷◌, ◌++◌, flat_map, Bool, true, false, ◌&&◌, not}
use Rattle.std.specs.Prelude.{Option, Some, None, Result, Ok, Err}
use Rattle.std.specs.Option.{option_and_then, option_map_or}
use Rattle.acap_login.specs.Login.{User}
use Rattle.acap_commands.specs.declared.event.Event.{Event}
use Rattle.acap_commands.specs.declared.event.Event.TheVariants as event
use Rattle.acap_commands.specs.declared.event.Fault.{Fault}
use Rattle.acap_commands.specs.declared.reply.Reply.{Reply}
use Rattle.acap_dialogue.specs.Saying.{with_said}
use Rattle.acap_dialogue.specs.Session.{after_answer, has_seat, session_drain, session_next}
use Rattle.acap_dialogue.specs.Talking.{Talking, beginning}
use Rattle.acap_dialogue.specs.Telling.{room_for, with_front}
use Rattle.acap_dialogue.specs.declared.next.Next.{Next}
use Rattle.acap_dialogue.specs.declared.next.Next.TheVariants as next
use Rattle.acap_dialogue.specs.declared.stage.Stage.TheVariants as stage

-- what an event was answered, if there was one
abbrev pub Outcome : Type 0
Outcome = Option (Result Reply Fault)

-- A step with all that it used: octets come; a turn, with what the clock
-- shows and a nonce; a drain, or an end, with what the clock shows. Then:
-- what the event that it asks was answered, and what the Leave after it was.
pub data Did : Type 0 where
  Piece : List ℕ → Did
  Turn : ℤ → ℕ → Outcome → Outcome → Did
  Drain : ℤ → Outcome → Outcome → Did
  Leave : ℤ → Outcome → Did

-- where a run stands: the session, all that it said, and whether an Enter of its user stands
pub record At : Type 0 where
  pub talk : Talking
  pub out : List ℕ
  pub seated : Bool

-- a session that hasn't said anything
abbrev pub start : List ℕ → Option (List ℕ) → At
start host user = record { talk = beginning host user; out = []; seated = false }

-- ---- one step

-- the event that is asked, if one is
abbrev pub event_in : Next × Talking → Option Event
event_in (next.More, t) = None
event_in (next.Say octets, t) = None
event_in (next.Ask event, t) = Some event
event_in (next.Close octets, t) = None

abbrev pub closes : Next → Bool
closes next.More = false
closes (next.Say octets) = false
closes (next.Ask event) = false
closes (next.Close octets) = true

-- an Enter that is answered with a reply stands
abbrev pub seated_by : Event → Result Reply Fault → Bool → Bool
seated_by (event.Enter user) (Ok reply) seated = true
seated_by (event.Enter user) (Err fault) seated = seated
seated_by (event.Command command) outcome seated = seated
seated_by event.Drain outcome seated = seated
seated_by event.Leave outcome seated = seated

-- What is next once the event that is asked is answered, and whether an Enter stands then. An event that is
-- asked is answered, and nothing else is.
abbrev pub after_asking : Bool → Next × Talking → Outcome → Option (Bool × (Next × Talking))
after_asking seated (next.Ask event, t) (Some outcome) =
    Some (seated_by event outcome seated, after_answer t outcome)
after_asking seated (next.Ask event, t) None = None
after_asking seated x None = Some (seated, x)
after_asking seated x (Some outcome) = None

-- a session that is closed while its Enter stands leaves its seat
abbrev pub is_left : Bool × (Next × Talking) → Bool
is_left x = closes x.1.0 && x.0

-- a Leave that is made is answered, and no other is
abbrev pub leaving : Bool → Outcome → At → Option At
leaving true (Some outcome) at = Some at
leaving true None at = None
leaving false (Some outcome) at = None
leaving false None at = Some at

-- what is next is said
abbrev pub after_saying : List ℕ → Bool × (Next × Talking) → At
after_saying out x = record { talk = x.1.1; out = with_said out x.1.0; seated = not (closes x.1.0) && x.0 }

-- a turn or a drain, by what is next
abbrev pub after_turn : At → Next × Talking → Outcome → Outcome → Option At
after_turn at x asked left =
    option_and_then (λ y. leaving (is_left y) left (after_saying at.out y)) (after_asking at.seated x asked)

-- the session takes octets, as many as it has room for
abbrev pub taking : Talking → List ℕ → Talking
taking t octets = with_front t (room_for t octets) octets

-- it is over
abbrev pub over : Talking → Talking
over t = record t { stage = stage.Closed }

-- One step of a session; None where no such step can be made.
unfoldable pub did : List User → Did → At → Option At
did users (Piece octets) at = Some (record at { talk = taking at.talk octets })
did users (Turn clock nonce asked left) at = after_turn at (session_next users nonce clock at.talk) asked left
did users (Drain clock asked left) at = after_turn at (session_drain at.talk) asked left
did users (Leave clock left) at =
    leaving at.seated left (record { talk = over at.talk; out = at.out; seated = false })

-- its steps, one after the other
abbrev pub after_steps : List User → List Did → At → Option At
after_steps users [] at = Some at
after_steps users (d ∷ ds) at = option_and_then (after_steps users ds) (did users d at)

-- ---- what steps use

-- all octets that come
abbrev pub octets_in : Did → List ℕ
octets_in (Piece octets) = octets
octets_in other = []

abbrev pub pieces : List Did → List ℕ
pieces dids = flat_map octets_in dids

-- what the clock showed, step by step
abbrev pub clocks_in : Did → List ℤ
clocks_in (Piece octets) = []
clocks_in (Turn clock nonce asked left) = clock ∷ []
clocks_in (Drain clock asked left) = clock ∷ []
clocks_in (Leave clock left) = clock ∷ []

abbrev pub clocks : List Did → List ℤ
clocks dids = flat_map clocks_in dids

-- the nonces that turns were handed
abbrev pub nonces_in : Did → List ℕ
nonces_in (Turn clock nonce asked left) = nonce ∷ []
nonces_in other = []

abbrev pub nonces : List Did → List ℕ
nonces dids = flat_map nonces_in dids

-- how many drains there are
abbrev pub drains_in : Did → ℕ
drains_in (Drain clock asked left) = 1
drains_in other = 0

abbrev pub drains : List Did → ℕ
drains [] = 0
drains (d ∷ ds) = drains_in d + drains ds

-- how many events were answered with a fault
abbrev pub fault_count : Outcome → ℕ
fault_count None = 0
fault_count (Some (Ok reply)) = 0
fault_count (Some (Err fault)) = 1

abbrev pub faults_in : Did → ℕ
faults_in (Piece octets) = 0
faults_in (Turn clock nonce asked left) = fault_count asked + fault_count left
faults_in (Drain clock asked left) = fault_count asked + fault_count left
faults_in (Leave clock left) = fault_count left

abbrev pub faults : List Did → ℕ
faults [] = 0
faults (d ∷ ds) = faults_in d + faults ds

-- an event that was answered with a reply
pub record Call : Type 0 where
  pub event : Event
  pub clock : ℤ
  pub reply : Reply

abbrev pub call_of : ℤ → Option Event → Outcome → List Call
call_of clock (Some event) (Some (Ok reply)) = record { event = event; clock = clock; reply = reply } ∷ []
call_of clock (Some event) (Some (Err fault)) = []
call_of clock (Some event) None = []
call_of clock None outcome = []

-- the event that a step asks, beside Leave
abbrev pub asked_in : List User → Did → Talking → Option Event
asked_in users (Piece octets) t = None
asked_in users (Turn clock nonce asked left) t = event_in (session_next users nonce clock t)
asked_in users (Drain clock asked left) t = event_in (session_drain t)
asked_in users (Leave clock left) t = None

-- whether a step makes a Leave
abbrev pub leaves_by : Bool → Next × Talking → Outcome → Bool
leaves_by seated x asked = option_map_or is_left (after_asking seated x asked) false

abbrev pub leaves_in : List User → Did → At → Bool
leaves_in users (Piece octets) at = false
leaves_in users (Turn clock nonce asked left) at =
    leaves_by at.seated (session_next users nonce clock at.talk) asked
leaves_in users (Drain clock asked left) at = leaves_by at.seated (session_drain at.talk) asked
leaves_in users (Leave clock left) at = at.seated

abbrev pub calls_with : ℤ → Option Event → Outcome → Outcome → List Call
calls_with clock asks asked left = call_of clock asks asked ++ call_of clock (Some event.Leave) left

-- the events of a step that were answered with replies, in their order
abbrev pub calls_in : List User → Did → At → List Call
calls_in users (Piece octets) at = []
calls_in users (Turn clock nonce asked left) at =
    calls_with clock (event_in (session_next users nonce clock at.talk)) asked left
calls_in users (Drain clock asked left) at = calls_with clock (event_in (session_drain at.talk)) asked left
calls_in users (Leave clock left) at = call_of clock (Some event.Leave) left

-- and those of all steps
abbrev pub calls : List User → List Did → At → List Call
calls users [] at = []
calls users (d ∷ ds) at = calls_in users d at ++ option_map_or (calls users ds) (did users d at) []

-- ---- a law

-- Where no memory was refused an Enter stands exactly where the session says that its user has the seat.
abbrev pub SeatedLaw : Type 0
SeatedLaw = (users : List User) (host : List ℕ) (user : Option (List ℕ)) (dids : List Did) (end : At) →
    after_steps users dids (start host user) ≡ Some end → end.seated ≡ has_seat end.talk

-- Where nothing is next, nothing is next whatever the clock shows and whichever nonce is handed in: only
-- octets, or the answer to an event, bring more.
abbrev pub QuietLaw : Type 0
QuietLaw = (users : List User) (nonce later : ℕ) (clock after : ℤ) (t : Talking) →
    (session_next users nonce clock t).0 ≡ next.More → (session_next users later after t).0 ≡ next.More
