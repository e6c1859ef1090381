-- What follows from the definitions alone.
use Rattle.std.specs.Prelude.{◌≡◌, ◌↔◌, List, map, Result, Ok}
use Rattle.acap_commands.specs.declared.event.Fault.{Fault}
use Rattle.acap_commands.specs.declared.reply.Reply.{Reply}
use Rattle.acap_machine.specs.Machine.{Machine}
use Rattle.acap_machine.specs.Runs.{run_of}
use Rattle.acap_machine.specs.declared.step.Step.{Step}
use Rattle.acap_locked.specs.declared.history_entry.HistoryEntry.{HistoryEntry}
use Rattle.acap_locked.specs.History.{IsReplay}

-- the step of a call, and what it was answered
abbrev pub step_in : HistoryEntry → Step
step_in e = record { seat = e.seat; event = e.exchange.event; clock = e.exchange.moment }

abbrev pub answer_in : HistoryEntry → Result Reply Fault
answer_in e = Ok e.exchange.reply

-- a machine is the replay of a history exactly where the run
-- of its steps answers what it says, and ends in that machine
abbrev pub ReplayLaw : Type 0
ReplayLaw = (base machine : Machine) (history : List HistoryEntry)
    → IsReplay base history machine ↔ (run_of base (map step_in history) ≡ (map answer_in history, machine))
