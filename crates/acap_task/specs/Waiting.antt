-- Where a session that runs waits, and how it ends.
use Rattle.std.specs.Prelude.{◌≡◌, ◌⊎◌, ℕ, ℤ, ◌+◌, ◌<◌, ◌≤◌, List, [], length, true, false, Option, Some}
use Rattle.std.specs.Prelude.{None, Result, Ok, Err}
use Rattle.futures.specs.declared.task.Poll.{Poll}
use Rattle.futures.specs.declared.task.Poll.TheVariants.{Ready}
use Rattle.acap_login.specs.Login.{User}
use Rattle.acap_dialogue.specs.Session.{is_closed, session_next}
use Rattle.acap_dialogue.specs.Talking.{Talking}
use Rattle.acap_dialogue.specs.declared.next.Next.TheVariants as next
use Rattle.acap_task.specs.Kept.{Kept, Roles, count_told}
use Rattle.acap_task.specs.Progress.{Progress, done}
use Rattle.acap_task.specs.Told.{WireTold, DeskTold, SourceTold, BellTold, last}
use Rattle.acap_task.specs.Turns.{LeavesAtEnd}
use Rattle.acap_task.specs.declared.bell.Ring.{Ring}
use Rattle.acap_task.specs.declared.bell.Ring.TheVariants as ring
use Rattle.acap_task.specs.declared.task.TaskEnd.{TaskEnd}
use Rattle.acap_task.specs.declared.task.TaskEnd.TheVariants as end
use Rattle.acap_task.specs.declared.wire.WireFault.{WireFault}

-- where no bell rang
abbrev pub IfSilent : Poll Ring → Type 0 → Type 0
IfSilent (Ready ring.Rung) P = Unit {0}
IfSilent other P = P

-- a further turn comes to nothing, whatever the clock shows and whichever nonce is given
abbrev pub IsQuiet : List User → Talking → Type 0
IsQuiet users t = (nonce : ℕ) (clock : ℤ) → (session_next users nonce clock t).0 ≡ next.More

-- a count rose, if it wasn't the last number
abbrev pub Rose : ℕ → ℕ → Type 0
Rose old new = old < last → old < new

-- counts of polls that found nothing ready don't fall, up to the last number
pub record Later (w v : WireTold) (b c : BellTold) : Type 0 where
  pub reader : count_told w.read_waits ≤ v.read_waits
  pub writer : count_told w.write_waits ≤ v.write_waits
  pub bell : count_told b.waits ≤ c.waits

-- ---- where a poll leaves a session waiting

-- it waits for its writer, which wasn't ready, with octets for it
abbrev pub Stalls : WireTold → WireTold → Progress → Type 0
Stalls w v new = Rose w.write_waits v.write_waits × (0 < length new.unsent)

-- it waits for its client: the reader wasn't ready, a further turn comes to nothing, and all that was said is
-- written
pub record Hears (users : List User) (w v : WireTold) (new : Progress) : Type 0 where
  pub reader : Rose w.read_waits v.read_waits
  pub quiet : IsQuiet users new.talk
  pub whole : new.lost ≡ false
  pub sent : new.unsent ≡ []

-- and nor was the bell, unless it has ended
pub record Listens (users : List User) (w v : WireTold) (b c : BellTold) (new : Progress) : Type 0 where
  pub hears : Hears users w v new
  pub bell : Rose b.waits c.waits ⊎ (c.ended ≡ true)

-- it waits for its writer; or for its client; or at least 64 steps were made, each a turn, a drain or a piece
-- that isn't empty
abbrev pub Waits : List User → WireTold → WireTold → BellTold → BellTold → Progress → Progress → Type 0
Waits users w v b c old new =
    Stalls w v new ⊎ (Listens users w v b c new ⊎ (done old.steps + 64 ≤ done new.steps))

-- the same of one round
abbrev pub Stops : List User → WireTold → WireTold → BellTold → BellTold → Progress → Type 0
Stops users w v b c new = Stalls w v new ⊎ Listens users w v b c new

-- all that waits to be written is, or the writer fails
pub record Flushes (w v : WireTold) (old new : Progress) : Type 0 where
  pub reader : v.read_waits ≡ w.read_waits
  pub writer : count_told w.write_waits ≤ v.write_waits
  pub talk : new.talk ≡ old.talk
  pub steps : new.steps ≡ old.steps
  pub lost : new.lost ≡ old.lost

abbrev pub IfWritten : Result (Unit {0}) WireFault → WireTold → WireTold → Progress → Type 0
IfWritten (Ok done) w v new = (new.unsent ≡ []) × (v.write_waits ≡ w.write_waits)
IfWritten (Err fault) w v new = 0 < v.write_faults

-- ---- how it ends

-- all was said and written, and the session closed, or the reader reported its end and a further turn comes
-- to nothing
pub record HasEnded (users : List User) (w : WireTold) (k : Progress) : Type 0 where
  pub sent : k.unsent ≡ []
  pub whole : k.lost ≡ false
  pub closed : (is_closed k.talk.stage ≡ true) ⊎ ((w.ended ≡ true) × IsQuiet users k.talk)

-- an end that doesn't come of polls
abbrev pub EndsAs : TaskEnd → List User → WireTold → Progress → Type 0
EndsAs end.Ended users w k = HasEnded users w k
EndsAs end.ReadFault users w k = 0 < w.read_faults
EndsAs end.WriteFault users w k = 0 < w.write_faults
EndsAs end.TurnsSpent users w k = ⊥
EndsAs end.Memory users w k = Unit {0}

-- what a round comes to: an end, or at least one step more
abbrev pub Comes : Option TaskEnd → List User → WireTold → Progress → Progress → Type 0
Comes None users w old new = done old.steps < done new.steps
Comes (Some how) users w old new = EndsAs how users w new

-- and one that may come of polls
abbrev pub EndsAt : TaskEnd → List User → WireTold → Progress → ℕ → ℕ → Type 0
EndsAt end.TurnsSpent users w k polls turns = polls ≡ turns
EndsAt other users w k polls turns = EndsAs other users w k

-- What was kept when it ended, and then the seat was left, if there was one.
pub record IsOver (roles : Roles) (w : WireTold) (e : DeskTold) (t : SourceTold) (b : BellTold)
    (new : Progress) (how : TaskEnd) (polls turns : ℕ) : Type 0 where
  pub old : Progress
  pub d : DeskTold
  pub s : SourceTold
  pub kept : Kept roles w d s b old
  pub ends : EndsAt how roles.users w old polls turns
  pub left : LeavesAtEnd old.seated old d s new e t
