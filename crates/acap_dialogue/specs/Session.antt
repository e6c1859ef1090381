-- What a session does next, and what it does with the machine's answer [RFC 2244 sections 2, 3.6 and 6.3.1].
use Rattle.std.specs.Prelude.{◌≡◌, ℕ, ℤ, List, Bool, true, false, [], Option, Some, None, Result, Ok, Err}
use Rattle.acap_lexer.specs.Held.{next_of}
use Rattle.acap_lexer.specs.declared.lexed.Mode.TheVariants as mode
use Rattle.acap_login.specs.Login.{User}
use Rattle.acap_commands.specs.declared.refusal.Refusal.TheVariants as refusals
use Rattle.acap_commands.specs.declared.reply.Reply.{Reply}
use Rattle.acap_commands.specs.declared.said.Said.TheVariants as said
use Rattle.acap_commands.specs.declared.command.Verb.TheVariants as verb
use Rattle.acap_commands.specs.declared.event.Event.TheVariants as event
use Rattle.acap_commands.specs.declared.event.Fault.{Fault}
use Rattle.acap_commands.specs.declared.event.Fault.TheVariants as fault
use Rattle.acap_dialogue.specs.Hearing.{response_to, heard_answer, opening, says, refuses}
use Rattle.acap_dialogue.specs.Listening.{Listening}
use Rattle.acap_dialogue.specs.Talking.{Talking}
use Rattle.acap_dialogue.specs.declared.next.Next.{Next}
use Rattle.acap_dialogue.specs.declared.next.Next.TheVariants as next
use Rattle.acap_dialogue.specs.declared.stage.Stage.{Stage}
use Rattle.acap_dialogue.specs.declared.stage.Stage.TheVariants as stage

-- what is next, and the session at the stage that it comes to
abbrev pub comes_to : Talking → Next × Stage → Next × Talking
comes_to t turn = (turn.0, record t { stage = turn.1 })

-- a session listens to its client
abbrev pub listening : Talking → ℕ → ℤ → Listening
listening t nonce clock = record { host = t.host; user = t.user; nonce = nonce; clock = clock }

-- one that awaits no answer hears a command
abbrev pub heard_at : Talking → ℕ → ℤ → Next × Talking
heard_at t nonce clock =
    comes_to (record t { held = (next_of mode.Command t.held).1 })
    (response_to (listening t nonce clock) (next_of mode.Command t.held).0)

-- and one whose challenge waits hears what the client answers
abbrev pub answer_at : List User → Option (List ℕ) → List ℕ → Talking → Next × Talking
answer_at users tag challenge t =
    comes_to (record t { held = (next_of mode.Answer t.held).1 })
    (heard_answer users tag challenge (next_of mode.Answer t.held).0)

-- one that awaits the machine's answer, or is closed, has nothing to say
abbrev pub next_at : List User → ℕ → ℤ → Stage → Talking → Next × Talking
next_at users nonce clock stage.Opening t = comes_to t (opening t.user)
next_at users nonce clock stage.Entering t = (next.More, t)
next_at users nonce clock stage.Ready t = heard_at t nonce clock
next_at users nonce clock (stage.Asked tag) t = (next.More, t)
next_at users nonce clock (stage.Challenged tag challenge) t = answer_at users tag challenge t
next_at users nonce clock (stage.LoggingIn tag user) t = (next.More, t)
next_at users nonce clock stage.Draining t = (next.More, t)
next_at users nonce clock stage.Closed t = (next.More, t)

unfoldable pub session_next : List User → ℕ → ℤ → Talking → Next × Talking
session_next users nonce clock t = next_at users nonce clock t.stage t

-- whether an event was asked
abbrev pub is_asked : Stage → Bool
is_asked stage.Opening = false
is_asked stage.Entering = true
is_asked stage.Ready = false
is_asked (stage.Asked tag) = true
is_asked (stage.Challenged tag challenge) = false
is_asked (stage.LoggingIn tag user) = true
is_asked stage.Draining = true
is_asked stage.Closed = false

-- the machine's answer to a command is said under its tag; want of memory and a full history are refusals,
-- and a session whose seat isn't its own is closed without a word
abbrev pub command_said : Option (List ℕ) → Result Reply Fault → Next × Stage
command_said tag (Ok reply) = says tag reply.said
command_said tag (Err fault.Memory) = refuses tag refusals.Memory
command_said tag (Err fault.HistoryFull) = refuses tag refusals.HistoryFull
command_said tag (Err fault.NotEntered) = (next.Close [], stage.Closed)
command_said tag (Err fault.AlreadyEntered) = (next.Close [], stage.Closed)

-- that of a user's entering begins the session, or ends it without a word
abbrev pub welcome_said : Result Reply Fault → Next × Stage
welcome_said (Ok reply) = says None reply.said
welcome_said (Err fault) = (next.Close [], stage.Closed)

-- that of entering after a login is the login's; where it was refused the session stays without a user
abbrev pub login_said : Option (List ℕ) → Result Reply Fault → Next × Stage
login_said tag (Ok reply) = says tag (said.Done verb.Authenticate)
login_said tag (Err fault) = command_said tag (Err fault)

abbrev pub login_user : List ℕ → Option (List ℕ) → Result Reply Fault → Option (List ℕ)
login_user name user (Ok reply) = Some name
login_user name user (Err fault) = user

-- that of a drain is said as it is; one that is refused memory, or that a full history refuses, says nothing,
-- and a session whose seat isn't its own is closed without a word
abbrev pub drain_said : Result Reply Fault → Next × Stage
drain_said (Ok reply) = says None reply.said
drain_said (Err fault.Memory) = (next.Say [], stage.Ready)
drain_said (Err fault.HistoryFull) = (next.Say [], stage.Ready)
drain_said (Err fault.NotEntered) = (next.Close [], stage.Closed)
drain_said (Err fault.AlreadyEntered) = (next.Close [], stage.Closed)

-- by what the session had asked: what is said, and who its user is then
abbrev pub answer_said : Stage → Result Reply Fault → Next × Stage
answer_said stage.Opening outcome = (next.More, stage.Opening)
answer_said stage.Entering outcome = welcome_said outcome
answer_said stage.Ready outcome = (next.More, stage.Ready)
answer_said (stage.Asked tag) outcome = command_said tag outcome
answer_said (stage.Challenged tag challenge) outcome = (next.More, stage.Challenged tag challenge)
answer_said (stage.LoggingIn tag name) outcome = login_said tag outcome
answer_said stage.Draining outcome = drain_said outcome
answer_said stage.Closed outcome = (next.More, stage.Closed)

abbrev pub answer_user : Stage → Option (List ℕ) → Result Reply Fault → Option (List ℕ)
answer_user stage.Opening user outcome = user
answer_user stage.Entering user outcome = user
answer_user stage.Ready user outcome = user
answer_user (stage.Asked tag) user outcome = user
answer_user (stage.Challenged tag challenge) user outcome = user
answer_user (stage.LoggingIn tag name) user outcome = login_user name user outcome
answer_user stage.Draining user outcome = user
answer_user stage.Closed user outcome = user

unfoldable pub after_answer : Talking → Result Reply Fault → Next × Talking
after_answer t outcome =
    comes_to (record t { user = answer_user t.stage t.user outcome }) (answer_said t.stage outcome)

-- a user's session that is ready may ask for what is pending; any other has nothing to ask
abbrev pub drain_for : Option (List ℕ) → Talking → Next × Talking
drain_for None t = (next.More, t)
drain_for (Some user) t = comes_to t (next.Ask event.Drain, stage.Draining)

abbrev pub drain_at : Stage → Talking → Next × Talking
drain_at stage.Opening t = (next.More, t)
drain_at stage.Entering t = (next.More, t)
drain_at stage.Ready t = drain_for t.user t
drain_at (stage.Asked tag) t = (next.More, t)
drain_at (stage.Challenged tag challenge) t = (next.More, t)
drain_at (stage.LoggingIn tag user) t = (next.More, t)
drain_at stage.Draining t = (next.More, t)
drain_at stage.Closed t = (next.More, t)

unfoldable pub session_drain : Talking → Next × Talking
session_drain t = drain_at t.stage t

-- it asks, or it doesn't
abbrev pub drain_in : Bool → Next
drain_in true = next.Ask event.Drain
drain_in false = next.More

abbrev pub is_closed : Stage → Bool
is_closed stage.Closed = true
is_closed other = false

-- whether it hears what comes next
abbrev pub is_hearing : Stage → Bool
is_hearing stage.Opening = false
is_hearing stage.Entering = false
is_hearing stage.Ready = true
is_hearing (stage.Asked tag) = false
is_hearing (stage.Challenged tag challenge) = true
is_hearing (stage.LoggingIn tag user) = false
is_hearing stage.Draining = false
is_hearing stage.Closed = false

-- whether the session's user has its seat in the machine
abbrev pub has_seat_at : Stage → Option (List ℕ) → Bool
has_seat_at stage.Opening user = false
has_seat_at stage.Entering user = false
has_seat_at stage.Closed user = false
has_seat_at other None = false
has_seat_at other (Some user) = true

abbrev pub has_seat : Talking → Bool
has_seat t = has_seat_at t.stage t.user

-- after `Ask` the machine's answer is awaited
abbrev pub Awaits : Next → Talking → Type 0
Awaits next.More t = Unit {0}
Awaits (next.Say octets) t = Unit {0}
Awaits (next.Ask event) t = is_asked t.stage ≡ true
Awaits (next.Close octets) t = Unit {0}
