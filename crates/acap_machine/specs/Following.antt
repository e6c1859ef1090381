-- Live contexts over all that happens: each keeps what a search finds now,
-- and the notices that wait lead a client there [RFC 2244 section 3.3].
use Rattle.std.specs.Prelude.{◌≡◌, ℕ, ℤ, Bool, true, List, Some, Ok}
use Rattle.std.specs.List.{list_all}
use Rattle.std.specs.Option.{option_map_or}
use Rattle.std.specs.FinMap as table
use Rattle.acap_entries.specs.FullPaths.{is_well_formed}
use Rattle.acap_entries.specs.Names.{is_user_name}
use Rattle.acap_commands.specs.declared.event.Event.{Event}
use Rattle.acap_commands.specs.declared.event.Event.TheVariants as event
use Rattle.acap_commands.specs.declared.reply.Reply.{Reply}
use Rattle.acap_machine.specs.Changing.{IsSound}
use Rattle.acap_machine.specs.Machine.{Machine, new_machine, user_at}
use Rattle.acap_machine.specs.Runs.{run_of}
use Rattle.acap_machine.specs.Serving.{write_of}
use Rattle.acap_machine.specs.Stepping.{step_of}
use Rattle.acap_machine.specs.declared.step.Step.{Step}
use Rattle.acap_rights.specs.declared.realm.Realm.{Realm}
use Rattle.acap_store.specs.DatasetLaws.{paths_named}
use Rattle.acap_views.specs.Contexts.{Context}
use Rattle.acap_views.specs.Current.{IsCurrentContext}
use Rattle.acap_views.specs.Seats.{Occupant}

-- the user has a name, and the paths that a command writes are
-- well formed: so it is of each event that there is in memory
abbrev pub is_named : Event → Bool
is_named (event.Enter user) = is_user_name user
is_named (event.Command c) =
    option_map_or (λ write. list_all is_well_formed (paths_named write)) (write_of c) true
is_named event.Drain = true
is_named event.Leave = true

-- a machine whose store is sound and whose live contexts are current, and each of whose users has a name
pub record IsCurrentMachine (m : Machine) : Type 0 where
  pub sound : IsSound m
  pub names : (seat : ℕ) (user : List ℕ) → user_at m seat ≡ Some user → is_user_name user ≡ true

-- the empty machine is one, and each step from one leads to one
pub record CurrentLaw : Type 0 where
  pub begins : (realm : Realm) → IsCurrentMachine (new_machine realm)
  pub stays : (m : Machine) (seat : ℕ) (e : Event) (clock : ℤ) (reply : Reply) (new : Machine)
      → step_of m seat e clock ≡ Ok (reply, new) → is_named e ≡ true → IsCurrentMachine m
      → IsCurrentMachine new

-- so after every list of steps: what each live context keeps
-- is what a search finds in the machine of that moment
abbrev pub FollowedLaw : Type 0
FollowedLaw =
    (realm : Realm) (steps : List Step) → list_all (λ s. is_named s.event) steps ≡ true
    → (seat : ℕ) (occupant : Occupant) (name : List ℕ) (context : Context)
    → let m = (run_of (new_machine realm) steps).1 in
    table.get m.seats seat ≡ Some occupant → table.get occupant.contexts name ≡ Some context
    → IsCurrentContext m.store m.realm occupant.user context
