-- What each step of a session that runs makes of it, and of what the desk and the source report.
use Rattle.std.specs.Prelude.{◌≡◌, ◌⊎◌, ℕ, ℤ, List, [], ◌∷◌, ◌++◌, length, take, drop, Bool, true, false}
use Rattle.std.specs.Prelude.{Option, Some, None, Result, Ok, Err}
use Rattle.futures.specs.declared.task.Poll.{Poll}
use Rattle.futures.specs.declared.task.Poll.TheVariants.{Ready}
use Rattle.acap_login.specs.Login.{User}
use Rattle.acap_commands.specs.declared.event.Event.{Event}
use Rattle.acap_commands.specs.declared.event.Event.TheVariants as event
use Rattle.acap_commands.specs.declared.event.Fault.{Fault}
use Rattle.acap_commands.specs.declared.reply.Reply.{Reply}
use Rattle.acap_dialogue.specs.Running.{closes, over, taking}
use Rattle.acap_dialogue.specs.Saying.{with_said, heard_of}
use Rattle.acap_dialogue.specs.Session.{after_answer, session_drain, session_next}
use Rattle.acap_dialogue.specs.Talking.{Talking}
use Rattle.acap_dialogue.specs.declared.next.Heard.{Heard}
use Rattle.acap_dialogue.specs.declared.next.Heard.TheVariants as heard
use Rattle.acap_dialogue.specs.declared.next.Next.{Next}
use Rattle.acap_dialogue.specs.declared.next.Next.TheVariants as next
use Rattle.acap_locked.specs.declared.call.Answer.{Answer}
use Rattle.acap_task.specs.Progress.{Progress}
use Rattle.acap_task.specs.Told.{WireTold, DeskTold, SourceTold, after_call, after_read, after_write}
use Rattle.acap_task.specs.Told.{gives_moment, gives_nonce}
use Rattle.acap_task.specs.declared.bell.Ring.{Ring}
use Rattle.acap_task.specs.declared.bell.Ring.TheVariants as ring
use Rattle.acap_task.specs.declared.progress.Step.{Step}
use Rattle.acap_task.specs.declared.progress.Step.TheVariants as step
use Rattle.acap_task.specs.declared.wire.WireFault.{WireFault}

-- ---- an event

-- what a desk's answer says, and why there is none
abbrev pub reply_in : Result Answer Fault → Result Reply Fault
reply_in (Ok answer) = Ok answer.reply
reply_in (Err fault) = Err fault

abbrev pub fault_in : Result Answer Fault → Option Fault
fault_in (Ok answer) = None
fault_in (Err fault) = Some fault

-- the seat is left, where there is one
abbrev pub Leaves : Bool → ℤ → DeskTold → Option Fault → DeskTold → Type 0
Leaves true clock d left e = (outcome : Result Answer Fault) × (left ≡ fault_in outcome)
    × (e ≡ after_call d event.Leave clock outcome)
Leaves false clock d left e = (left ≡ None) × (e ≡ d)

-- a session that closes leaves its seat
abbrev pub Ends : Heard → Bool → ℤ → DeskTold → Option Fault → Bool → DeskTold → Type 0
Ends heard.Closes seated clock d left now e = Leaves seated clock d left e × (now ≡ false)
Ends other seated clock d left now e = (left ≡ None) × (now ≡ seated) × (e ≡ d)

-- What a session says to an answer waits to be written, or memory is refused for it. The answer then closes
-- nothing.
abbrev pub SaysTo : Next × Talking → ℤ → Progress → DeskTold → Option Fault → Progress → DeskTold → Type 0
SaysTo x clock old d left new e =
    ((new.lost ≡ old.lost) × (new.talk ≡ x.1) × (new.unsent ≡ with_said old.unsent x.0)
    × Ends (heard_of x.0) old.seated clock d left new.seated e)
    ⊎ ((new.lost ≡ true) × (closes x.0 ≡ false) × (new.unsent ≡ old.unsent)
    × (left ≡ None) × (new.seated ≡ old.seated) × (e ≡ d))

abbrev pub is_entering : Event → Bool
is_entering (event.Enter user) = true
is_entering other = false

-- whether the seat is taken after an answer
abbrev pub seats : Bool → Result Answer Fault → Bool → Bool
seats true (Ok answer) seated = true
seats enters outcome seated = seated

-- the session once an event was answered so
abbrev pub with_seat : Event → Result Answer Fault → Progress → Progress
with_seat event outcome k = record k { seated = seats (is_entering event) outcome k.seated }

-- an event is performed, and what the session says to its answer waits to be written
abbrev pub Settles :
    Event → ℤ → Progress → DeskTold → Option Fault → Option Fault → Progress → DeskTold → Type 0
Settles event clock old d asked left new e = (outcome : Result Answer Fault) × (asked ≡ fault_in outcome)
    × SaysTo (after_answer old.talk (reply_in outcome)) clock (with_seat event outcome old)
    (after_call d event clock outcome) left new e

-- ---- a turn

-- all but the steps is as it was
abbrev pub KeepsAll : Progress → Progress → Type 0
KeepsAll old new =
    (new.talk ≡ old.talk) × (new.unsent ≡ old.unsent) × (new.lost ≡ old.lost) × (new.seated ≡ old.seated)

-- this step is written down
abbrev pub Notes : Step → Progress → Progress → Type 0
Notes s old new = new.steps ≡ old.steps ++ s ∷ []

-- what is heard is done, and written down; whether it is anything
abbrev pub Acts : Heard → ℤ → ℕ → Progress → DeskTold → Bool → Progress → DeskTold → Type 0
Acts heard.More clock nonce old d moved new e = (moved ≡ false) × (new ≡ old) × (e ≡ d)
Acts heard.Said clock nonce old d moved new e =
    (moved ≡ true) × Notes (step.Turn clock nonce None None) old new × KeepsAll old new × (e ≡ d)
Acts (heard.Asks event) clock nonce old d moved new e =
    (moved ≡ true) × ((asked : Option Fault) × (left : Option Fault)
    × Notes (step.Turn clock nonce asked left) old new × Settles event clock old d asked left new e)
Acts heard.Closes clock nonce old d moved new e =
    (moved ≡ true) × ((left : Option Fault) × Notes (step.Turn clock nonce None left) old new
    × Leaves old.seated clock d left e × KeepsAll (record old { seated = false }) new)

-- a turn was made, at a moment and with a nonce that were just given; whether anything was next
pub record Turns (users : List User) (moved : Bool) (old : Progress) (d : DeskTold) (s : SourceTold)
    (new : Progress) (e : DeskTold) (t : SourceTold) : Type 0 where
  pub clock : ℤ
  pub nonce : ℕ
  pub whole : old.lost ≡ false
  pub given : t ≡ gives_nonce (gives_moment s clock) nonce
  pub acts : let x = session_next users nonce clock old.talk in
      Acts (heard_of x.0) clock nonce (record old { talk = x.1; unsent = with_said old.unsent x.0 }) d
      moved new e

-- nothing was done, for want of memory, but a moment and a nonce may have been given
pub record Idles (old : Progress) (d : DeskTold) (s : SourceTold) (new : Progress) (e : DeskTold)
    (t : SourceTold) : Type 0 where
  pub steps : new.steps ≡ old.steps
  pub unsent : new.unsent ≡ old.unsent
  pub seated : new.seated ≡ old.seated
  pub desk : e ≡ d
  pub talk : new.lost ≡ false → (new.talk ≡ old.talk) × (old.lost ≡ false)
  pub given : (t ≡ s) ⊎ ((clock : ℤ) × (nonce : ℕ) × (t ≡ gives_nonce (gives_moment s clock) nonce))

-- ---- a drain

abbrev pub DrainsAs : Next → ℤ → Progress → DeskTold → Progress → DeskTold → Type 0
DrainsAs (next.Ask event) clock old d new e = (asked : Option Fault) × (left : Option Fault)
    × Notes (step.Drain clock asked left) old new × Settles event clock old d asked left new e
DrainsAs other clock old d new e = Notes (step.Drain clock None None) old new × KeepsAll old new × (e ≡ d)

pub record Drains (old : Progress) (d : DeskTold) (s : SourceTold) (new : Progress) (e : DeskTold)
    (t : SourceTold) : Type 0 where
  pub clock : ℤ
  pub given : t ≡ gives_moment s clock
  pub acts : let x = session_drain old.talk in DrainsAs x.0 clock (record old { talk = x.1 }) d new e

-- what follows what a bell says
abbrev pub Rings : Poll Ring → Progress → DeskTold → SourceTold → Progress → DeskTold → SourceTold → Type 0
Rings (Ready ring.Rung) old d s new e t = Drains old d s new e t
Rings other old d s new e t = (new ≡ old) × (e ≡ d) × (t ≡ s)

-- ---- octets

-- the session takes octets; or memory is refused for them
abbrev pub Takes : List ℕ → Progress → Progress → Type 0
Takes octets old new = (new.unsent ≡ old.unsent) × (new.seated ≡ old.seated)
    × (((new.talk ≡ taking old.talk octets) × Notes (step.Piece (length octets)) old new
    × (new.lost ≡ old.lost)) ⊎ ((new.steps ≡ old.steps) × (new.lost ≡ true)))

-- what is read is given to the session, if it is anything
abbrev pub ReadsAs : Poll (Result ℕ WireFault) → List ℕ → Progress → Progress → Type 0
ReadsAs (Ready (Ok n)) buffer old new =
    ((n ≡ 0) × (new ≡ old))
    ⊎ ((n ≡ 0 → ⊥) × (n ≡ length (take n buffer)) × Takes (take n buffer) old new)
ReadsAs other buffer old new = new ≡ old

pub record Reads (w : WireTold) (old : Progress) (result : Poll (Result ℕ WireFault)) (v : WireTold)
    (new : Progress) : Type 0 where
  pub buffer : List ℕ
  pub told : v ≡ after_read w result buffer
  pub as_read : ReadsAs result buffer old new

-- what then waits to be written is what a writer hasn't taken
abbrev pub left_by : Poll (Result ℕ WireFault) → List ℕ → List ℕ
left_by (Ready (Ok n)) unsent = drop n unsent
left_by other unsent = unsent

abbrev pub Writes : WireTold → Progress → Poll (Result ℕ WireFault) → WireTold → Progress → Type 0
Writes w old result v new =
    (v ≡ after_write w result old.unsent) × (new ≡ record old { unsent = left_by result old.unsent })

-- ---- the end

-- the session once it has left its seat
abbrev pub gone : ℤ → Result Answer Fault → Progress → Progress
gone clock outcome k = record k {
  talk = over k.talk;
  steps = k.steps ++ step.Leave clock (fault_in outcome) ∷ [];
  seated = false;
}

-- the seat is left, if there is one
abbrev pub LeavesAtEnd : Bool → Progress → DeskTold → SourceTold → Progress → DeskTold → SourceTold → Type 0
LeavesAtEnd true old d s new e t = (clock : ℤ) × (outcome : Result Answer Fault)
    × (new ≡ gone clock outcome old) × (e ≡ after_call d event.Leave clock outcome)
    × (t ≡ gives_moment s clock)
LeavesAtEnd false old d s new e t = (new ≡ old) × (e ≡ d) × (t ≡ s)
