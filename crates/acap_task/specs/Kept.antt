-- What a session that runs keeps, for what its wire, desk, source and bell report [RFC 2244 section 2].
use Rattle.std.specs.Prelude.{◌≡◌, ◌⊎◌, ℕ, ℤ, min, List, [], ◌∷◌, ◌++◌, map, length, Option, Some, None, Err}
use Rattle.std.specs.Prelude.{false}
use Rattle.acap_login.specs.Login.{User}
use Rattle.acap_commands.specs.declared.event.Fault.{Fault}
use Rattle.acap_dialogue.specs.Running as running
use Rattle.acap_dialogue.specs.Session.{session_next}
use Rattle.acap_dialogue.specs.declared.next.Next.TheVariants as next
use Rattle.acap_dialogue.specs.Running.{At, Did, Piece, Turn, Drain, Leave, Outcome, calls, clocks, did}
use Rattle.acap_dialogue.specs.Running.{drains, faults, nonces, pieces, after_steps, start}
use Rattle.acap_locked.specs.Notes.{call_of}
use Rattle.acap_locked.specs.declared.call.Call.{Call}
use Rattle.acap_task.specs.Progress.{Progress}
use Rattle.acap_task.specs.Told.{WireTold, DeskTold, SourceTold, BellTold, last}
use Rattle.acap_task.specs.declared.conn.SessionParams.{SessionParams}
use Rattle.acap_task.specs.declared.progress.Step.{Step}
use Rattle.acap_task.specs.declared.progress.Step.TheVariants as step

-- who may log in, at which host, and whose session it is from the start, if it is anybody's
pub record Roles : Type 0 where
  pub users : List User
  pub host : List ℕ
  pub user : Option (List ℕ)

abbrev pub roles_of : SessionParams → Roles
roles_of p = record { users = p.users.now; host = p.host; user = p.user }

-- ---- what is kept of a step

abbrev pub fault_of : Outcome → Option Fault
fault_of (Some (Err fault)) = Some fault
fault_of other = None

abbrev pub shape : Did → Step
shape (Piece octets) = step.Piece (length octets)
shape (Turn clock nonce asked left) = step.Turn clock nonce (fault_of asked) (fault_of left)
shape (Drain clock asked left) = step.Drain clock (fault_of asked) (fault_of left)
shape (Leave clock left) = step.Leave clock (fault_of left)

-- ---- what is reported

-- what is reported, if it is, is this
abbrev pub Agrees : {A : Type 0} → Option A → A → Type 0
Agrees None x = Unit {0}
Agrees (Some a) x = a ≡ x

-- a count as it is reported: it stops at the last number
abbrev pub count_told : ℕ → ℕ
count_told n = min n last

-- the calls of a run, as a desk reports them
abbrev pub as_told : running.Call → Call
as_told c = call_of c.event c.clock c.reply

-- the first list is the second with some left out
abbrev pub IsPicked : {A : Type 0} → List A → List A → Type 0
IsPicked used [] = used ≡ []
IsPicked {A} used (g ∷ gs) = IsPicked used gs ⊎ ((rest : List A) × (used ≡ g ∷ rest) × IsPicked rest gs)

-- ---- what is kept

-- a turn that is noted came to something
abbrev pub Moves : List User → Did → At → Type 0
Moves users (Turn clock nonce asked left) at = (session_next users nonce clock at.talk).0 ≡ next.More → ⊥
Moves users other at = Unit {0}

abbrev pub AllMove : List User → List Did → Option At → Type 0
AllMove users (d ∷ ds) (Some at) = Moves users d at × AllMove users ds (did users d at)
AllMove users dids o = Unit {0}

-- There is a run of the session of which the steps are those that are kept, each with all that it used. Its
-- octets are those that were read, in their order, but for some that memory was refused for. Its moments and
-- nonces were given, in their order and none twice. Its drains are the bell's rings. Its events that were
-- answered are the desk's calls, and its faults as many as the desk counts. What was written, what waits to
-- be, and what memory was refused for, is what it said.
pub record Kept (roles : Roles) (w : WireTold) (d : DeskTold) (s : SourceTold) (b : BellTold) (k : Progress)
    : Type 0 where
  pub dids : List Did
  pub at : At
  pub written : List ℕ
  pub missing : List ℕ
  pub unread : List ℕ
  pub moments : List ℤ
  pub numbers : List ℕ
  pub ran : after_steps roles.users dids (start roles.host roles.user) ≡ Some at
  pub moved : AllMove roles.users dids (Some (start roles.host roles.user))
  pub steps_are : map shape dids ≡ k.steps
  pub talk_is : k.lost ≡ false → at.talk ≡ k.talk
  pub seated_is : at.seated ≡ k.seated
  pub said_is : at.out ≡ written ++ (k.unsent ++ missing)
  pub whole : k.lost ≡ false → missing ≡ []
  pub all_read : k.lost ≡ false → unread ≡ []
  pub taken_is : Agrees w.taken (pieces dids ++ unread)
  pub put_is : Agrees w.put written
  pub calls_are : Agrees d.calls (map as_told (calls roles.users dids (start roles.host roles.user)))
  pub faults_are : d.faults ≡ count_told (faults dids)
  pub moments_are : Agrees s.moments moments
  pub numbers_are : Agrees s.nonces numbers
  pub clocks_picked : IsPicked (clocks dids) moments
  pub nonces_picked : IsPicked (nonces dids) numbers
  pub rings_are : Agrees b.rings (count_told (drains dids))

-- a wire, a desk, a source and a bell that have reported nothing yet
pub record IsUntold (w : WireTold) (d : DeskTold) (s : SourceTold) (b : BellTold) : Type 0 where
  pub taken : Agrees w.taken []
  pub put : Agrees w.put []
  pub ended : w.ended ≡ false
  pub read_faults : w.read_faults ≡ 0
  pub write_faults : w.write_faults ≡ 0
  pub calls : Agrees d.calls []
  pub faults : d.faults ≡ 0
  pub moments : Agrees s.moments []
  pub nonces : Agrees s.nonces []
  pub rings : Agrees b.rings 0
