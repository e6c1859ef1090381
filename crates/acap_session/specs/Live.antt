-- The client of a context over all that happens in a world: it holds what a search finds [RFC 2244 sections
-- 3.3 and 6.5].
use Rattle.std.specs.Prelude.{◌≡◌, ◌⊎◌, ℕ, ℤ, ◌==◌, Bool, true, false, ◌&&◌, List, Vec, [], ◌∷◌, ◌++◌, Option}
use Rattle.std.specs.Prelude.{Some, None, IsSome, option_map, MatchResult, Result, Ok, Err, if◌then◌else◌}
use Rattle.std.specs.declared.alloc.Global.{Global}
use Rattle.std.specs.declared.alloc.AllocError.{AllocError as Memory}
use Rattle.std.specs.List.{list_all}
use Rattle.std.specs.Option.{option_and_then}
use Rattle.acap_commands.specs.declared.command.Command.TheVariants as command
use Rattle.acap_commands.specs.declared.event.Event.{Event}
use Rattle.acap_commands.specs.declared.event.Event.TheVariants as event
use Rattle.acap_commands.specs.declared.event.Fault.{Fault}
use Rattle.acap_commands.specs.declared.reply.Reply.{Reply}
use Rattle.acap_commands.specs.declared.said.Said.{Said}
use Rattle.acap_commands.specs.declared.said.Said.TheVariants as said
use Rattle.acap_dialogue.specs.Running.{event_in}
use Rattle.acap_dialogue.specs.Session.{session_next}
use Rattle.acap_entries.specs.Names.{is_user_name}
use Rattle.acap_login.specs.Login.{User, are_named}
use Rattle.acap_notices.specs.Holding.{holding, holding_after_all}
use Rattle.acap_notices.specs.declared.notice.Notice.{Notice}
use Rattle.acap_notices.specs.declared.told.Told.{Told}
use Rattle.acap_notices.specs.declared.told.Told.TheVariants as told_as
use Rattle.acap_search.specs.Fresh.{matches_of}
use Rattle.acap_search.specs.Matches.{Match}
use Rattle.acap_views.specs.Contexts.{Context, Live}
use Rattle.acap_views.specs.Current.{rows}
use Rattle.acap_views.specs.Seats.{Occupant}
use Rattle.std.specs.FinMap as table
use Rattle.acap_machine.specs.Client.{Client, View, IsFresh, IsSeenAlike, client_after, client_after_tolds}
use Rattle.acap_machine.specs.Client.{whole_after, tells, live_at, with_rows}
use Rattle.acap_machine.specs.Machine.{Machine, Roomed}
use Rattle.acap_machine.specs.Runs.{outcome_of}
use Rattle.acap_rights.specs.declared.realm.Realm.{Realm}
use Rattle.acap_session.specs.Laws.{AloneLaw, asked_by, own_at}
use Rattle.acap_session.specs.Places.{SeatSession}
use Rattle.acap_dialogue.specs.Talking.{Talking}
use Rattle.acap_session.specs.Turning.{Scene, scene, asked_of, event_outcome, turn_of, IsTurn, IsAsked}
use Rattle.acap_session.specs.Turning.{CutInAsking, WasCut}
use Rattle.acap_session.specs.World as world
use Rattle.acap_session.specs.World.{World, Action, Step, did, world_after, new_world, open_at, scene_of}
use Rattle.acap_session.specs.World.{IsStep, IsCutAt}
use Rattle.acap_session.specs.declared.occasion.Occasion.{Occasion}
use Rattle.acap_session.specs.declared.occasion.Turn.{Turn}
use Rattle.acap_session.specs.declared.world_fault.WorldFault.{WorldFault}
use Rattle.acap_session.specs.declared.world_fault.WorldFault.TheVariants as faults

-- ---- what the session of a seat is answered

-- the event that it asks in a step, if it asks one
abbrev pub asked_in : World → Step → Option Event
asked_in w x = asked_by w x (open_at w x.occasion.seat)

-- with what the machine says to it; a fault says nothing. These replies are those of the seat's own steps, of
-- which its octets are made
abbrev pub told_with : Event → Result Reply Fault → Option (Event × Said)
told_with e (Ok reply) = Some (e, reply.said)
told_with e (Err fault) = None

abbrev pub told_at : World → Step → Option SeatSession → Option (Event × Said)
told_at w x now =
    option_and_then (λ e. option_and_then (told_with e) (own_at w x now).asked) (asked_by w x now)

abbrev pub told_in : World → Step → Option (Event × Said)
told_in w x = told_at w x (open_at w x.occasion.seat)

-- ---- the client of a seat's context, and whether the list that it began with was sent whole: over a list of
-- steps, from what is so before them

abbrev pub client_told : List ℕ → Option (Event × Said) → Client → Client
client_told name None held = held
client_told name (Some told) held = client_after name told.0 told.1 held

abbrev pub whole_told : List ℕ → Option (Event × Said) → Bool → Bool
whole_told name None whole = whole
whole_told name (Some told) whole = whole_after name told.0 told.1 whole

abbrev pub client_in : ℕ → List ℕ → List Step → World → Client → Client
client_in seat name [] w held = held
client_in seat name (x ∷ xs) w held =
    client_in seat name xs
    (did x.occasion x.refused x.action w)
    (if x.occasion.seat == seat then client_told name (told_in w x) held else held)

abbrev pub whole_in : ℕ → List ℕ → List Step → World → Bool → Bool
whole_in seat name [] w whole = whole
whole_in seat name (x ∷ xs) w whole =
    whole_in seat name xs
    (did x.occasion x.refused x.action w)
    (if x.occasion.seat == seat then whole_told name (told_in w x) whole else whole)

-- ---- the law

-- those whose sessions open have names of users
abbrev pub has_name : Option (List ℕ) → Bool
has_name None = true
has_name (Some user) = is_user_name user

abbrev pub is_named_action : Action → Bool
is_named_action (world.Open user) = has_name user
is_named_action other = true

abbrev pub all_open_named : List Step → Bool
all_open_named steps = list_all (λ x. is_named_action x.action) steps

-- and so have those who may log in
abbrev pub AreNamed : List User → List Step → Type 0
AreNamed users steps = (are_named users ≡ true) × (all_open_named steps ≡ true)

-- whether the client of that context is sent all in this step
abbrev pub told_all : List ℕ → Option (Event × Said) → Bool
told_all name None = false
told_all name (Some told) = tells name told.0 told.1

abbrev pub tells_in : ℕ → List ℕ → World → Step → Bool
tells_in seat name w x = x.occasion.seat == seat && told_all name (told_in w x)

-- a run of a new world, and in its last step the client of a context is sent all
pub record Telling : Type 0 where
  pub realm : Realm
  pub users : List User
  pub host : List ℕ
  pub steps : List Step
  pub last : Step
  pub seat : ℕ
  pub name : List ℕ

abbrev pub start : Telling → World
start t = new_world t.realm t.users t.host

abbrev pub all_steps : Telling → List Step
all_steps t = t.steps ++ t.last ∷ []

abbrev pub after : Telling → World
after t = world_after (all_steps t) (start t)

-- what its client then holds
abbrev pub client : Telling → Client
client t = client_in t.seat t.name (all_steps t) (start t) None

-- the context is live, and its client began with a whole list; who may log in and who opens sessions is named
-- so
pub record IsTelling (Named : List User → List Step → Type 0) (t : Telling) (x : View) : Type 0 where
  pub named : Named t.users (all_steps t)
  pub tells : tells_in t.seat t.name (world_after t.steps (start t)) t.last ≡ true
  pub live : live_at (after t).machine t.seat t.name ≡ Some x
  pub whole : whole_in t.seat t.name (all_steps t) (start t) false ≡ true

-- In the last step of a run an UPDATECONTEXT is answered, and this MODTIME of the context stands in the reply
-- after what was read of it; the client began with a whole list.
pub record IsReading (Named : List User → List Step → Type 0) (t : Telling) (x : View) (names : List (List ℕ))
    (read unread : List Told) (moment : ℤ) : Type 0 where
  pub named : Named t.users (all_steps t)
  pub own : t.last.occasion.seat ≡ t.seat
  pub told : told_in (world_after t.steps (start t)) t.last
      ≡ Some (
        event.Command (command.UpdateContext names),
        said.Updated (read ++ told_as.Upto t.name moment ∷ unread),
      )
  pub live : live_at (after t).machine t.seat t.name ≡ Some x
  pub whole : whole_in t.seat t.name t.steps (start t) false ≡ true

-- what the client holds that has read so far
abbrev pub client_amid : Telling → List Told → Client
client_amid t read = client_after_tolds t.name read (client_in t.seat t.name t.steps (start t) None)

-- of all runs whose users and steps are named so
pub record LiveLawOf (Named : List User → List Step → Type 0) : Type 0 where
  -- whatever the sessions do, in whichever order: as long as the context is live, the client that began with
  -- a whole list met no notice that misfits, and holds the rows of the list that it was sent last
  pub holds :
      (realm : Realm)
      (users : List User) (host : List ℕ) (steps : List Step) (seat : ℕ) (name : List ℕ) (x : View) →
      let w = new_world realm users host in
      Named users steps → live_at (world_after steps w).machine seat name ≡ Some x
      → whole_in seat name steps w false ≡ true
      → client_in seat name steps w None ≡ with_rows x
  -- and at every moment the notices that wait lead on from what it was sent last to what a search finds now,
  -- and none of them misfits
  pub follows : (realm : Realm) (users : List User) (host : List ℕ) (steps : List Step) (seat : ℕ)
      (name : List ℕ)
      (occupant : Occupant) (context : Context) (shown now : List Match) (pending : List Notice) →
      let w = new_world realm users host in
      let m = (world_after steps w).machine in
      let found = matches_of m.store.records m.realm occupant.user context.sought in
      Named users steps → table.get m.seats seat ≡ Some occupant
      → table.get occupant.contexts name ≡ Some context → context.kept ≡ Live shown now pending
      → holding_after_all (holding context.enumerated (rows shown)) pending
      ≡ Some (holding context.enumerated (rows found))
  -- and where an UPDATECONTEXT of its name has just ended, or a drain, these are what a search finds then
  pub told : (t : Telling) (x : View) → IsTelling Named t x
      → (client t ≡ with_rows x) × IsFresh (after t).machine t.seat x
  -- and so they are at each MODTIME of the context within a reply, for the client that has read so far
  pub modtimes : (t : Telling) (x : View) (names : List (List ℕ)) (read unread : List Told) (moment : ℤ)
      → IsReading Named t x names read unread moment
      → (client_amid t read ≡ with_rows x) × IsFresh (after t).machine t.seat x
  -- every row, place and membership of which comes of what the user sees: two clients whose users see the
  -- same hold the same
  pub seen : (t u : Telling) (x y : View) → IsTelling Named t x → IsTelling Named u y → x.0 ≡ y.0
      → x.1.0 ≡ y.1.0
      → IsSeenAlike (after t).machine t.seat (after u).machine u.seat x.0 → client t ≡ client u
  -- what is said at a seat comes of its steps and of these replies
  pub octets : AloneLaw

-- who may log in, and whose sessions open, have names of users
abbrev pub LiveLaw : Type 0
LiveLaw = LiveLawOf AreNamed

-- Of runs of a world in which these may log in. That they have names of users is no premise.
abbrev pub MayLogIn : List User → List User → List Step → Type 0
MayLogIn those users steps = (users ≡ those) × (all_open_named steps ≡ true)

abbrev pub LiveLawFor : List User → Type 0
LiveLawFor those = LiveLawOf (MayLogIn those)

-- ---- words of the contracts: a turn, and what its session is answered in it

abbrev pub answer_in : Occasion → Machine → Event → Result Reply Fault
answer_in o m event = outcome_of (event_outcome false m o event)

-- the event that a session asked was performed, and what it says to the answer was said
abbrev pub IsToldOf : Occasion → Event → Scene → Option (Event × Said) → Scene → Type 0
IsToldOf o event old told new =
    (told ≡ told_with event (answer_in o old.machine event))
    × (new ≡ (asked_of o false old.machine old.out old.talk event).1)

-- a session made a turn
abbrev pub told_by : Occasion → Machine → Option Event → Option (Event × Said)
told_by o m asks = option_and_then (λ e. option_and_then (told_with e) (option_map (answer_in o m) asks)) asks

abbrev pub IsTold : List User → Occasion → Scene → Option (Event × Said) → Scene → Type 0
IsTold users o old told new =
    (told ≡ told_by o old.machine (event_in (session_next users o.nonce o.clock old.talk)))
    × (new ≡ (turn_of users o false old).1)

-- by how a call ends: where memory is refused the same was done, though it isn't reported, or the session was
-- cut
abbrev pub AsksReportedTo : Occasion → Event → Scene → Scene → Result (Option (Event × Said)) Memory → Type 0
AsksReportedTo o event old new result = MatchResult result
    (λ told. IsToldOf o event old told new)
    (λ memory. ((came : Turn) × IsAsked o event old came new) ⊎ CutInAsking o event old new)

abbrev pub ReportsTo : List User → Occasion → Scene → Scene → Result (Option (Event × Said)) Memory → Type 0
ReportsTo users o old new result = MatchResult result
    (λ told. IsTold users o old told new)
    (λ memory. ((came : Turn) × IsTurn users o old came new)
    ⊎ WasCut o old (session_next users o.nonce o.clock old.talk) new)

-- of the machine in memory, the session, and the octets to be written
abbrev pub AsksReported : Occasion → Event → Roomed → Talking → Vec ℕ Global → Roomed → Talking → Vec ℕ Global
    → Result (Option (Event × Said)) Memory → Type 0
AsksReported o event m t out n u more =
    AsksReportedTo o event (scene m.machine t out.items) (scene n.machine u more.items)

abbrev pub Reports : List User → Occasion → Roomed → Talking → Vec ℕ Global → Roomed → Talking → Vec ℕ Global
    → Result (Option (Event × Said)) Memory → Type 0
Reports users o m t out n u more =
    ReportsTo users o (scene m.machine t out.items) (scene n.machine u more.items)

-- a step of a world was made
abbrev pub step_on : Occasion → Action → Step
step_on o action = record { occasion = o; refused = false; action = action }

abbrev pub IsToldIn : Step → World → Option (Event × Said) → World → Type 0
IsToldIn x old told new = (told ≡ told_in old x) × (new ≡ did x.occasion x.refused x.action old)

-- what a turn of a seat's session, with its report, answers and leaves
abbrev pub ReportsAt : Occasion → World → World → Result (Option (Event × Said)) WorldFault → Type 0
ReportsAt o old new (Ok told) = IsSome (open_at old o.seat) × IsToldIn (step_on o world.Turn) old told new
ReportsAt o old new (Err faults.NoSeat) = (open_at old o.seat ≡ None) × (new ≡ old)
ReportsAt o old new (Err faults.Taken) = ⊥
ReportsAt o old new (Err faults.Memory) = (place : SeatSession) × (open_at old o.seat ≡ Some place)
    × (IsStep o world.Turn old new
    ⊎ IsCutAt o (WasCut o (scene_of old place) (session_next old.users o.nonce o.clock place.talk)) old new)
