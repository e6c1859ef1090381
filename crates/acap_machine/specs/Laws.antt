-- What follows from the definition of a step alone.
use Rattle.std.specs.Prelude.{◌≡◌, ◌⊎◌, ℕ, ℤ, List, Some, Ok, true, false, ◌==◌, int_lt}
use Rattle.std.specs.FinMap as table
use Rattle.acap_entries.specs.declared.change.Change.{Change}
use Rattle.acap_commands.specs.declared.command.Command.{Command}
use Rattle.acap_commands.specs.declared.event.Event.{Event}
use Rattle.acap_commands.specs.declared.event.Event.TheVariants as event
use Rattle.acap_commands.specs.declared.refusal.Refusal.{Refusal}
use Rattle.acap_commands.specs.declared.reply.Reply.{Reply}
use Rattle.acap_commands.specs.declared.said.Said.TheVariants as said
use Rattle.acap_machine.specs.Changing.{changed_by}
use Rattle.acap_machine.specs.Machine.{Machine, user_at}
use Rattle.acap_machine.specs.Serving.{write_of}
use Rattle.acap_machine.specs.Stepping.{step_of}
use Rattle.acap_store.specs.Planning.{plan}
use Rattle.acap_store.specs.declared.write.Write.{Write}

-- a refused event leaves the machine as it was, whichever event it is
abbrev pub RefusedLaw : Type 0
RefusedLaw = (m : Machine) (seat : ℕ) (e : Event) (clock : ℤ) (reply : Reply) (new : Machine)
    (refusal : Refusal) →
    step_of m seat e clock ≡ Ok (reply, new) → reply.said ≡ said.Refused refusal → new ≡ m

-- the change that an event made of the store: one that the user of its seat asked for, by a command that
-- writes. All contexts follow it, and it is later than the one before it, whatever the clock
pub record IsChange (m : Machine) (seat : ℕ) (e : Event) (clock : ℤ) (new : Machine) : Type 0 where
  pub user : List ℕ
  pub asks : Command
  pub write : Write
  pub change : Change
  pub event_is : e ≡ event.Command asks
  pub writes : write_of asks ≡ Some write
  pub seated : user_at m seat ≡ Some user
  pub planned_as : plan m.store m.realm user write clock ≡ Ok change
  pub made : new ≡ changed_by change m
  pub later : int_lt m.store.last new.store.last ≡ true

-- what an event does elsewhere: where it changes the store all contexts
-- follow that; else the store stays, and what stands at every other seat
pub record OthersStay (m : Machine) (seat : ℕ) (new : Machine) : Type 0 where
  pub store : new.store ≡ m.store
  pub seats : (other : ℕ) → (other == seat) ≡ false → table.get new.seats other ≡ table.get m.seats other

-- no event changes who is who, or who sits at another seat
pub record OthersLaw : Type 0 where
  pub realm : (m : Machine) (seat : ℕ) (e : Event) (clock : ℤ) (reply : Reply) (new : Machine) →
      step_of m seat e clock ≡ Ok (reply, new) → new.realm ≡ m.realm
  pub users : (m : Machine) (seat : ℕ) (e : Event) (clock : ℤ) (reply : Reply) (new : Machine) →
      step_of m seat e clock ≡ Ok (reply, new) → (other : ℕ) → (other == seat) ≡ false
      → user_at new other ≡ user_at m other

-- an event makes a change of the store that a command of its seat asks for, and contexts follow it; or the
-- store stays, and at other seats nothing changes
abbrev pub ChangeLaw : Type 0
ChangeLaw = (m : Machine) (seat : ℕ) (e : Event) (clock : ℤ) (reply : Reply) (new : Machine) →
    step_of m seat e clock ≡ Ok (reply, new) → IsChange m seat e clock new ⊎ OthersStay m seat new
