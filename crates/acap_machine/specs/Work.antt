-- How many touched entries an event may make the machine look at for contexts [RFC 2244 section 3.3].
use Rattle.std.specs.Prelude.{ℕ, ℤ, Bool, true, false, Result, Ok, Err}
use Rattle.std.specs.Option.{option_map_or}
use Rattle.acap_entries.specs.declared.change.Change.{Change}
use Rattle.acap_commands.specs.declared.command.Command.{Command}
use Rattle.acap_commands.specs.declared.command.Command.TheVariants as command
use Rattle.acap_commands.specs.declared.event.Event.{Event}
use Rattle.acap_commands.specs.declared.event.Event.TheVariants as event
use Rattle.acap_commands.specs.declared.refusal.Refusal.{Refusal}
use Rattle.acap_machine.specs.Machine.{Machine, user_at}
use Rattle.acap_machine.specs.Serving.{write_of}
use Rattle.acap_store.specs.Planning.{plan}
use Rattle.acap_store.specs.declared.write.Write.{Write}
use Rattle.acap_views.specs.Preparing.{touched_for_all}

-- the entries that a change touches in the scopes of live contexts, each once for each such context
abbrev pub touched_by : Machine → Change → ℕ
touched_by m change = touched_for_all change m.store m.seats

-- a refused write touches nothing
abbrev pub touched_or : Machine → Result Change Refusal → ℕ
touched_or m (Ok change) = touched_by m change
touched_or m (Err refusal) = 0

abbrev pub work_at : Machine → ℕ → Write → ℤ → ℕ
work_at m seat write clock =
    option_map_or (λ user. touched_or m (plan m.store m.realm user write clock)) (user_at m seat) 0

-- no other event touches anything
abbrev pub work_of : Machine → ℕ → Event → ℤ → ℕ
work_of m seat (event.Enter user) clock = 0
work_of m seat (event.Command c) clock = option_map_or (λ write. work_at m seat write clock) (write_of c) 0
work_of m seat event.Drain clock = 0
work_of m seat event.Leave clock = 0

-- a SEARCH may look at any number of entries
abbrev pub searches : Command → Bool
searches command.Noop = false
searches command.Logout = false
searches (command.Authenticate mechanism) = false
searches (command.Store entries) = false
searches (command.Search search) = true
searches (command.SetAcl object identifier letters) = false
searches (command.DeleteAcl object identifier) = false
searches (command.MyRights object) = false
searches (command.ListRights object identifier) = false
searches (command.DeletedSince dataset since) = false
searches (command.FreeContext name) = false
searches (command.UpdateContext names) = false

abbrev pub is_search : Event → Bool
is_search (event.Enter user) = false
is_search (event.Command c) = searches c
is_search event.Drain = false
is_search event.Leave = false
