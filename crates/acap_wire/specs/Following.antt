-- What a client reads from the wire is what a search would find [RFC 2244 sections 2.2, 3.3 and 6.5].
use Rattle.std.specs.Prelude.{◌≡◌, ℕ, Bool, true, false, List, [], ◌∷◌, ◌++◌, map, Option, Some, option_map}
use Rattle.acap_commands.specs.declared.command.Command.TheVariants as command
use Rattle.acap_commands.specs.declared.event.Event.{Event}
use Rattle.acap_commands.specs.declared.event.Event.TheVariants as event
use Rattle.acap_commands.specs.declared.said.Said.TheVariants as said
use Rattle.acap_grammar.specs.Lines.{Line, UpTo}
use Rattle.acap_grammar.specs.Listening.{hears}
use Rattle.acap_grammar.specs.Printed.{printed_row}
use Rattle.acap_grammar.specs.Readable.{after}
use Rattle.acap_client.specs.Following.{Follower, Held, Kept, new, held_as, look_up, follow_all}
use Rattle.acap_login.specs.Login.{User}
use Rattle.acap_machine.specs.Client.{View, IsFresh, live_at}
use Rattle.acap_moves.specs.Hits.{is_among}
use Rattle.acap_notices.specs.declared.told.Told.{Told}
use Rattle.acap_views.specs.Current.{rows}
use Rattle.acap_session.specs.Live as live
use Rattle.acap_session.specs.Live.{AreNamed, MayLogIn, Telling, IsTelling, all_steps, start, told_in}
use Rattle.acap_session.specs.Live.{whole_in}
use Rattle.acap_session.specs.World.{Step, World, world_after}
use Rattle.acap_wire.specs.Seat.{ArePrintable, after_lines, before_lines, follower_in, lines_in}
use Rattle.acap_wire.specs.Seat.{lines_read, octets_in, said_in}

-- the rows of the list that a client was sent last, as they are printed: in their positions with ENUMERATE,
-- by name without
abbrev pub shown_rows : View → Held
shown_rows x = held_as x.1.0 (map printed_row (rows x.1.1))

-- what is held, and whether it was freed
abbrev pub standing : Kept → Held × Bool
standing kept = (kept.held, kept.freed)

-- a context with these rows, of which more may come
abbrev pub Holds : View → List ℕ → Follower → Type 0
Holds x name f = option_map standing (look_up name f.contexts) ≡ Some (shown_rows x, false)

-- and of which all was sent up to its MODTIME
abbrev pub HoldsAll : View → List ℕ → Follower → Type 0
HoldsAll x name f =
    look_up name f.contexts ≡ Some (record { held = shown_rows x; complete = true; freed = false })

-- the worlds before the last step of a run and after it, and the follower of the seat
abbrev pub world_before : Telling → World
world_before t = world_after t.steps (start t)

abbrev pub follower_before : Telling → Follower
follower_before t = follower_in t.seat t.steps (start t) new

abbrev pub follower : Telling → Follower
follower t = follower_in t.seat (all_steps t) (start t) new

-- that follower before the lines of the last step, and what is said in this step
abbrev pub follower_asking : Telling → Follower
follower_asking t = before_lines (world_before t) t.last (follower_before t)

abbrev pub said_last : Telling → List ℕ
said_last t = said_in (world_before t) t.last

-- all octets that are said at the seat, from the greeting of its present session on, and the lines of its
-- steps
abbrev pub all_octets : Telling → List ℕ
all_octets t = octets_in t.seat (all_steps t) (start t) []

abbrev pub all_lines : Telling → List Line
all_lines t = lines_read t.seat (all_steps t) (start t) []

-- what can be read at the seat in a run
abbrev pub IsReadable : Telling → Type 0
IsReadable t = ArePrintable t.seat (all_steps t) (start t)

-- a run after which the context is live, and its client began with a whole list
pub record IsFollowing (Named : List User → List Step → Type 0) (t : Telling) (x : View) : Type 0 where
  pub named : Named t.users (all_steps t)
  pub live : live_at (live.after t).machine t.seat t.name ≡ Some x
  pub whole : whole_in t.seat t.name (all_steps t) (start t) false ≡ true

-- the last step is the seat's
abbrev pub IsOwn : Telling → Type 0
IsOwn t = t.last.occasion.seat ≡ t.seat

-- the event of an UPDATECONTEXT of these names
abbrev pub asks_update : List (List ℕ) → Event
asks_update names = event.Command (command.UpdateContext names)

-- and a search finds then what the client was sent last
abbrev pub IsFound : Telling → View → Type 0
IsFound t x = IsFresh (live.after t).machine t.seat x

-- The follower of a seat is given the commands of its session, each before the lines of its reply, and reads
-- all lines in the octets that are said there, from the greeting
-- of the present session on. In every run of a new world:
pub record FollowerLawOf (Named : List User → List Step → Type 0) : Type 0 where
  -- what is said in a step is whole lines, whatever was heard before
  pub heard : (t : Telling) → IsReadable t → IsOwn t → (before : List (Option Line))
      → hears (after before) (said_last t) ≡ after (before ++ map Some (lines_in (said_last t)))
  -- so all octets of the present session, however a client cuts them, are heard as the lines of its steps
  pub whole : (t : Telling) → IsReadable t → hears (after []) (all_octets t) ≡ after (map Some (all_lines t))
  -- while a context is live that began with a whole list, the rows are held that the client was sent last
  pub holds : (t : Telling) (x : View) → IsFollowing Named t x → IsReadable t → Holds x t.name (follower t)
  -- and no line was a misfit of it: each step after which that is so has none
  pub fits : (t : Telling) (x : View) → IsFollowing Named t x → IsReadable t → IsOwn t
      → is_among t.name (after_lines (world_before t) t.last (follower_before t)).1 ≡ false
  -- where an UPDATECONTEXT of its name has just ended it is complete
  pub complete : (t : Telling) (x : View) (names : List (List ℕ)) (tolds : List Told)
      → IsFollowing Named t x → IsReadable t → IsOwn t
      → told_in (world_before t) t.last ≡ Some (asks_update names, said.Updated tolds)
      → is_among t.name names ≡ true → HoldsAll x t.name (follower t)
  -- where an UPDATECONTEXT of its name has just ended, or a drain, these rows are what a search finds then
  pub told : (t : Telling) (x : View) → IsTelling Named t x → IsReadable t
      → Holds x t.name (follower t) × IsFound t x
  -- and so they are when a `* MODTIME` of the context has been read
  pub modtimes : (t : Telling) (x : View) (front back : List Line) (stamp : List ℕ)
      → IsFollowing Named t x → IsReadable t → IsOwn t
      → lines_in (said_last t) ≡ front ++ UpTo t.name stamp ∷ back
      → let read = front ++ UpTo t.name stamp ∷ [] in
      HoldsAll x t.name (follow_all read (follower_asking t)).0 × IsFound t x

-- Of runs in which who may log in, and whose sessions open, have names of users.
abbrev pub FollowerLaw : Type 0
FollowerLaw = FollowerLawOf AreNamed

-- Of runs of a world in which these may log in. That they have names of users is no premise.
abbrev pub FollowerLawFor : List User → Type 0
FollowerLawFor those = FollowerLawOf (MayLogIn those)
