-- What devices in memory do, poll by poll.
use Rattle.std.specs.Prelude.{◌≡◌, ⊤, ℕ, min, List, [], ◌∷◌, Result, Ok, Err}
use Rattle.futures.specs.declared.task.Poll.{Poll}
use Rattle.futures.specs.declared.task.Poll.TheVariants.{Ready, Pending}
use Rattle.acap_task.specs.declared.mem_bell.BellAnswer.{BellAnswer}
use Rattle.acap_task.specs.declared.mem_bell.BellAnswer.TheVariants as bell
use Rattle.acap_task.specs.declared.mem_wire.WireAnswer.{WireAnswer}
use Rattle.acap_task.specs.declared.mem_wire.WireAnswer.TheVariants as wire
use Rattle.acap_task.specs.declared.bell.Ring.{Ring}
use Rattle.acap_task.specs.declared.bell.Ring.TheVariants as ring
use Rattle.acap_task.specs.declared.wire.WireFault.{WireFault}

-- A plan has what is done first, in its order, and what is done from then on. This is what is done next,
abbrev pub next_of : {A : Type 0} → List A × A → A
next_of ([], always) = always
next_of (first ∷ others, always) = first

-- and this is the plan after it.
abbrev pub rest_of : {A : Type 0} → List A × A → List A × A
rest_of ([], always) = ([], always)
rest_of (first ∷ others, always) = (others, always)

-- a side of a wire that has `there` octets to move has done this
abbrev pub IsDone : WireAnswer → ℕ → Poll (Result ℕ WireFault) → Type 0
IsDone (wire.Moves width) there (Ready (Ok n)) = n ≡ min width there
IsDone wire.Waits there Pending = ⊤
IsDone wire.Fails there (Ready (Err fault)) = ⊤
IsDone other there result = ⊥

-- a writer has done this, or memory was refused
abbrev pub IsPut : WireAnswer → ℕ → Poll (Result ℕ WireFault) → Type 0
IsPut (wire.Moves width) there (Ready (Err fault)) = ⊤
IsPut act there result = IsDone act there result

-- what a bell says
abbrev pub said_by : BellAnswer → Poll Ring
said_by bell.Rings = Ready ring.Rung
said_by bell.Waits = Pending
said_by bell.Ends = Ready ring.End

-- how many octets were moved
abbrev pub moved_by : Poll (Result ℕ WireFault) → ℕ
moved_by (Ready (Ok n)) = n
moved_by other = 0
