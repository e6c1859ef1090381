-- Which words complete a command [RFC 2244 section 6.2].
use Rattle.std.specs.Prelude.{◌≡◌, ℕ, ℤ, Bool, true, false, Ok}
use Rattle.acap_commands.specs.Statuses.{status_of}
use Rattle.acap_commands.specs.declared.command.Command.{Command}
use Rattle.acap_commands.specs.declared.reply.Reply.{Reply}
use Rattle.acap_commands.specs.declared.said.Said.{Said}
use Rattle.acap_commands.specs.declared.said.Said.TheVariants as said
use Rattle.acap_commands.specs.declared.refusal.Status.{Status}
use Rattle.acap_commands.specs.declared.refusal.Status.TheVariants as status
use Rattle.acap_machine.specs.Machine.{Machine}
use Rattle.acap_machine.specs.Stepping.{step_of}
use Rattle.acap_commands.specs.declared.event.Event.TheVariants as event

-- NO and BAD answer a command; a BYE answers none
abbrev pub is_answer : Status → Bool
is_answer status.No = true
is_answer status.Bad = true
is_answer status.Bye = false

-- whether the last line that is said is an OK, NO or BAD
abbrev pub completes : Said → Bool
completes said.Greeting = false
completes said.Left = false
completes (said.Drained tolds) = false
completes (said.Updated tolds) = true
completes (said.Done verb) = true
completes (said.Searched found) = true
completes (said.Deleted names) = true
completes (said.Rights rights) = true
completes (said.RightsList rights) = true
completes (said.Challenge challenge) = false
completes said.GoodBye = true
completes (said.Refused refusal) = is_answer (status_of refusal)

-- what the machine says to a command completes it
abbrev pub CompletingLaw : Type 0
CompletingLaw = (m : Machine) (seat : ℕ) (c : Command) (clock : ℤ) (reply : Reply) (new : Machine) →
    step_of m seat (event.Command c) clock ≡ Ok (reply, new) → completes reply.said ≡ true
