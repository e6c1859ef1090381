-- Whole runs of the machine: one step after another.
use Rattle.std.specs.Prelude.{List, [], ◌∷◌, Result, Ok, Err}
use Rattle.acap_commands.specs.declared.reply.Reply.{Reply}
use Rattle.acap_machine.specs.Machine.{Machine}
use Rattle.acap_machine.specs.Stepping.{step_of}
use Rattle.acap_commands.specs.declared.event.Fault.{Fault}
use Rattle.acap_machine.specs.declared.step.Step.{Step}

-- what a step answers, and the machine after it: a fault leaves it as it was
abbrev pub outcome_of : Result (Reply × Machine) Fault → Result Reply Fault
outcome_of (Ok stepped) = Ok stepped.0
outcome_of (Err fault) = Err fault

abbrev pub machine_after : Machine → Result (Reply × Machine) Fault → Machine
machine_after m (Ok stepped) = stepped.1
machine_after m (Err fault) = m

abbrev pub stepped_at : Machine → Step → Result (Reply × Machine) Fault
stepped_at m step = step_of m step.seat step.event step.clock

abbrev pub after_step : Machine → Step → Machine
after_step m step = machine_after m (stepped_at m step)

-- what all steps answer, in their order, and the machine after them
abbrev pub run_of : Machine → List Step → List (Result Reply Fault) × Machine
run_of m [] = ([], m)
run_of m (step ∷ steps) =
    let rest = run_of (after_step m step) steps in
    (outcome_of (stepped_at m step) ∷ rest.0, rest.1)
