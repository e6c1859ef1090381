-- The machine without any list that is kept beside: of a context there is what its client was sent and what
-- waits, and a search is made anew wherever its matches are needed [RFC 2244 sections 2, 3.3, 6.4.1 and 6.5].
use Rattle.std.specs.Prelude.{◌≡◌, ℕ, ℤ, ◌+◌, Bool, true, false, ◌&&◌, not, nat_le, nat_lt, if◌then◌else◌}
use Rattle.std.specs.Prelude.{List, [], ◌∷◌, ◌++◌, length, Option, Some, None, Result, Ok, Err, flat_map}
use Rattle.std.specs.Prelude.{map as each}
use Rattle.std.specs.List.{list_all}
use Rattle.std.specs.Option.{option_map_or, option_or}
use Rattle.std.specs.Ordering.{nat_cmp}
use Rattle.std.specs.FinMap as table
use Rattle.acap_entries.specs.Changes.{store_after}
use Rattle.acap_entries.specs.Orders.{octets_cmp}
use Rattle.acap_entries.specs.Store.{Store, empty_store}
use Rattle.acap_entries.specs.declared.change.Change.{Change}
use Rattle.acap_commands.specs.Wanted.{Wanted}
use Rattle.acap_commands.specs.declared.command.Command.{Command}
use Rattle.acap_commands.specs.declared.command.Command.TheVariants as command
use Rattle.acap_commands.specs.declared.event.Event.{Event}
use Rattle.acap_commands.specs.declared.event.Event.TheVariants as event
use Rattle.acap_commands.specs.declared.event.Fault.{Fault}
use Rattle.acap_commands.specs.declared.event.Fault.TheVariants as fault
use Rattle.acap_commands.specs.declared.search_modifiers.MakeContext.{MakeContext}
use Rattle.acap_commands.specs.declared.refusal.Refusal.{Refusal}
use Rattle.acap_commands.specs.declared.refusal.Refusal.TheVariants as refusals
use Rattle.acap_commands.specs.declared.reply.Reply.{Reply}
use Rattle.acap_commands.specs.declared.said.Said.{Said}
use Rattle.acap_commands.specs.declared.said.Said.TheVariants as said
use Rattle.acap_commands.specs.declared.search_modifiers.SearchModifiers.{SearchModifiers}
use Rattle.acap_commands.specs.declared.target.Target.{Target}
use Rattle.acap_commands.specs.declared.target.Target.TheVariants as target
use Rattle.acap_commands.specs.declared.command.Verb.{Verb}
use Rattle.acap_commands.specs.declared.command.Verb.TheVariants as verb
use Rattle.acap_machine.specs.Following.{is_named}
use Rattle.acap_machine.specs.Machine.{Machine, new_machine}
use Rattle.acap_machine.specs.Runs.{run_of}
use Rattle.acap_machine.specs.Searching.{found_of, refused_as, view_refused_as, searched_within}
use Rattle.acap_machine.specs.Serving.{names_or}
use Rattle.acap_machine.specs.Stepping.{plain}
use Rattle.acap_machine.specs.declared.step.Step.{Step}
use Rattle.acap_notices.specs.Waiting.{notices_pending}
use Rattle.acap_notices.specs.declared.notice.Notice.{Notice}
use Rattle.acap_notices.specs.declared.told.Told.{Told}
use Rattle.acap_notices.specs.declared.told.Told.TheVariants as told
use Rattle.acap_rights.specs.Deciding.{dataset_in, rights_of, implicit_rights}
use Rattle.acap_rights.specs.Rights.{letters_of, rights_list}
use Rattle.acap_rights.specs.declared.realm.Realm.{Realm}
use Rattle.acap_search.specs.Asking.{asked_of}
use Rattle.acap_search.specs.Fresh.{matches_of, refusal_of}
use Rattle.acap_search.specs.Matches.{Match}
use Rattle.acap_search.specs.declared.query.SearchRequest.{SearchRequest}
use Rattle.acap_search.specs.declared.query.SearchSpec.{SearchSpec}
use Rattle.acap_search.specs.declared.refusal.SearchRefusal.{SearchRefusal}
use Rattle.acap_store.specs.Deleting.{deleted_since}
use Rattle.acap_store.specs.Meaning.{target_for}
use Rattle.acap_store.specs.Planning.{plan}
use Rattle.acap_store.specs.declared.write.Write.TheVariants as write
use Rattle.acap_views.specs.Changing.{sight_for}
use Rattle.acap_views.specs.Contexts as live
use Rattle.acap_views.specs.Maps.{each_kept, each_value}
use Rattle.acap_views.specs.Notices.{event_notices}
use Rattle.acap_views.specs.Opening.{most_contexts}
use Rattle.acap_views.specs.Ranging.{Ranged}
use Rattle.acap_views.specs.Seats as live_seats
use Rattle.acap_views.specs.declared.refusal.ViewRefusal.{ViewRefusal}
use Rattle.acap_views.specs.declared.refusal.ViewRefusal.TheVariants as view

-- ---- contexts

-- a snapshot; what its client was sent last, and the notices that wait since; or freed, and nothing
pub data Kept : Type 0 where
  Snapshot : (shown : List Match) → Kept
  Notified : (shown : List Match) (pending : List Notice) → Kept
  Freed : Kept

pub record Context : Type 0 where
  pub sought : SearchSpec
  pub enumerated : Bool
  pub told : ℤ
  pub kept : Kept

abbrev pub Contexts : Type 0
Contexts = table.FinMap octets_cmp Context

pub record Occupant : Type 0 where
  pub user : List ℕ
  pub contexts : Contexts

abbrev pub Seated : Type 0
Seated = table.FinMap nat_cmp Occupant

pub record PlainMachine : Type 0 where
  pub realm : Realm
  pub store : Store
  pub seats : Seated

abbrev pub new_plain : Realm → PlainMachine
new_plain realm = record { realm = realm; store = empty_store; seats = table.empty }

abbrev pub contexts_at : Seated → ℕ → Contexts
contexts_at seats seat = option_map_or (λ o. o.contexts) (table.get seats seat) table.empty

abbrev pub with_contexts : PlainMachine → ℕ → Contexts → PlainMachine
with_contexts m seat contexts = record m {
  seats = option_map_or (λ o. table.insert m.seats seat (record o { contexts = contexts }))
      (table.get m.seats seat) m.seats;
}

-- ---- a change of the store: its notices wait after the others, or the context is freed

abbrev pub follows : List Notice → Kept → Kept
follows notices (Snapshot shown) = Snapshot shown
follows notices (Notified shown pending) =
    if nat_lt notices_pending (length pending + length notices) then Freed
    else Notified shown (pending ++ notices)
follows notices Freed = Freed

abbrev pub follows_in : Realm → Store → Store → List ℕ → Context → Context
follows_in realm old new user c = record c {
  kept = follows
      (event_notices c.enumerated c.sought (sight_for realm old user c.sought)
      (sight_for realm new user c.sought)) c.kept;
}

abbrev pub follows_for : Realm → Store → Store → Occupant → Occupant
follows_for realm old new o = record o { contexts = each_value (follows_in realm old new o.user) o.contexts }

abbrev pub after_change : Change → PlainMachine → PlainMachine
after_change change m = record m {
  store = store_after change m.store;
  seats = each_value (follows_for m.realm m.store (store_after change m.store)) m.seats;
}

-- ---- UPDATECONTEXT: one name after the other; what was sent is then what a search finds

abbrev pub fault_in : Kept → Option ViewRefusal
fault_in (Snapshot shown) = Some view.NotNotify
fault_in (Notified shown pending) = None
fault_in Freed = Some view.FreedContext

abbrev pub fault_of : Contexts → List (List ℕ) → Option ViewRefusal
fault_of contexts [] = None
fault_of contexts (name ∷ names) =
    option_or (option_map_or (λ c. fault_in c.kept) (table.get contexts name) (Some view.NoContext))
    (fault_of contexts names)

abbrev pub pending_in : Kept → List Notice
pending_in (Snapshot shown) = []
pending_in (Notified shown pending) = pending
pending_in Freed = []

abbrev pub told_kept : List Match → Kept → Kept
told_kept fresh (Snapshot shown) = Snapshot shown
told_kept fresh (Notified shown pending) = Notified fresh []
told_kept fresh Freed = Freed

abbrev pub told_all : PlainMachine → List ℕ → Context → Context
told_all m user c = record c { kept = told_kept (matches_of m.store.records m.realm user c.sought) c.kept }

abbrev pub updated_one : PlainMachine → List ℕ → Contexts → List ℕ → Contexts
updated_one m user contexts name =
    option_map_or (λ c. table.insert contexts name (record (told_all m user c) { told = m.store.last }))
    (table.get contexts name) contexts

abbrev pub tolds_of_one : PlainMachine → Contexts → List ℕ → List Told
tolds_of_one m contexts name =
    option_map_or (λ c. each (told.Note name) (pending_in c.kept)) (table.get contexts name) []
    ++ told.Upto name m.store.last ∷ []

abbrev pub tolds_of : PlainMachine → List ℕ → Contexts → List (List ℕ) → List Told
tolds_of m user contexts [] = []
tolds_of m user contexts (name ∷ names) =
    tolds_of_one m contexts name ++ tolds_of m user (updated_one m user contexts name) names

abbrev pub updated_all : PlainMachine → List ℕ → Contexts → List (List ℕ) → Contexts
updated_all m user contexts [] = contexts
updated_all m user contexts (name ∷ names) = updated_all m user (updated_one m user contexts name) names

abbrev pub updated_or : PlainMachine → ℕ → List ℕ → List (List ℕ) → Option ViewRefusal → Said × PlainMachine
updated_or m seat user names (Some why) = (said.Refused (view_refused_as why), m)
updated_or m seat user names None = (
  said.Updated (tolds_of m user (contexts_at m.seats seat) names),
  with_contexts m seat (updated_all m user (contexts_at m.seats seat) names),
)

-- ---- a drain

abbrev pub drain_tolds : List ℕ → Kept → List Told
drain_tolds name (Snapshot shown) = []
drain_tolds name (Notified shown pending) = each (told.Note name) pending
drain_tolds name Freed = told.Freed name ∷ []

abbrev pub drained_kept : PlainMachine → List ℕ → Context → Kept → Option Context
drained_kept m user c (Snapshot shown) = Some c
drained_kept m user c (Notified shown pending) = Some (told_all m user c)
drained_kept m user c Freed = None

abbrev pub drain_answer : PlainMachine → ℕ → List ℕ → Reply × PlainMachine
drain_answer m seat user = (
  plain (said.Drained (flat_map (λ e. drain_tolds e.0 e.1.kept) (table.entries (contexts_at m.seats seat)))),
  with_contexts m seat (each_kept (λ c. drained_kept m user c c.kept) (contexts_at m.seats seat)),
)

-- ---- SEARCH

abbrev pub kept_of : Bool → List Match → Kept
kept_of true found = Notified found []
kept_of false found = Snapshot found

abbrev pub is_full : Contexts → List ℕ → Bool
is_full contexts name = not (table.contains_key contexts name) && nat_le most_contexts (table.len contexts)

abbrev pub kept_if : PlainMachine → ℕ → Option MakeContext → SearchSpec → List Match → Said
    → Said × PlainMachine
kept_if m seat None sought matches words = (words, m)
kept_if m seat (Some make) sought matches words =
    if is_full (contexts_at m.seats seat) make.name then (said.Refused refusals.TryFreeContext, m)
    else (
      words,
      with_contexts m seat (table.insert (contexts_at m.seats seat) make.name
          (record {
            sought = sought;
            enumerated = make.enumerate;
            told = m.store.last;
            kept = kept_of make.notify matches;
          })),
    )

abbrev pub found_or : PlainMachine → ℕ → SearchRequest → Option SearchRefusal → List Match
    → Said × PlainMachine
found_or m seat asked (Some refusal) matches =
    (said.Refused (refused_as asked.query.sought.dataset refusal), m)
found_or m seat asked None matches =
    kept_if m seat asked.make_context asked.query.sought matches
    (said.Searched (found_of m.store.last asked.query.sought asked.limit matches))

abbrev pub ranged_as : Context → List Match → Ranged
ranged_as c shown = record { sought = c.sought; enumerated = c.enumerated; told = c.told; shown = shown }

abbrev pub ranged_in : Context → Kept → Result Ranged ViewRefusal
ranged_in c (Snapshot shown) = Ok (ranged_as c shown)
ranged_in c (Notified shown pending) = Ok (ranged_as c shown)
ranged_in c Freed = Err view.FreedContext

abbrev pub ranged_of : Option Context → Result Ranged ViewRefusal
ranged_of None = Err view.NoContext
ranged_of (Some c) = ranged_in c c.kept

abbrev pub search_answer : PlainMachine → ℕ → List ℕ → Target → SearchModifiers → Wanted → Said × PlainMachine
search_answer m seat user (target.Dataset dataset) modifiers key =
    let asked = asked_of user dataset modifiers key in
    found_or m seat asked (refusal_of m.store.records m.realm user asked.query)
    (matches_of m.store.records m.realm user asked.query.sought)
search_answer m seat user (target.Context name) modifiers key = (
  searched_within m.store m.realm user (ranged_of (table.get (contexts_at m.seats seat) name)) modifiers
      key,
  m,
)

-- ---- commands, and events

abbrev pub write_answer : PlainMachine → Verb → Result Change Refusal → Said × PlainMachine
write_answer m done (Ok change) = (said.Done done, after_change change m)
write_answer m done (Err refusal) = (said.Refused refusal, m)

unfoldable pub answer_to : PlainMachine → ℕ → List ℕ → Command → ℤ → Said × PlainMachine
answer_to m seat user command.Noop clock = (said.Done verb.Noop, m)
answer_to m seat user command.Logout clock = (said.GoodBye, m)
answer_to m seat user (command.Authenticate mechanism) clock = (said.Refused refusals.LoggedIn, m)
answer_to m seat user (command.Store entries) clock =
    write_answer m verb.Store (plan m.store m.realm user (write.Store entries) clock)
answer_to m seat user (command.Search search) clock =
    search_answer m seat user search.target search.modifiers search.key
answer_to m seat user (command.SetAcl object identifier letters) clock =
    write_answer m verb.SetAcl (plan m.store m.realm user (write.SetAcl object identifier letters) clock)
answer_to m seat user (command.DeleteAcl object identifier) clock =
    write_answer m verb.DeleteAcl (plan m.store m.realm user (write.DeleteAcl object identifier) clock)
answer_to m seat user (command.MyRights object) clock =
    (said.Rights (letters_of (rights_of m.store.records m.realm user (target_for user object))), m)
answer_to m seat user (command.ListRights object identifier) clock = (
  said.RightsList (rights_list (implicit_rights m.realm identifier (dataset_in (target_for user object)))),
  m,
)
answer_to m seat user (command.DeletedSince dataset since) clock =
    (names_or (deleted_since m.store m.realm user dataset since), m)
answer_to m seat user (command.FreeContext name) clock =
    if table.contains_key (contexts_at m.seats seat) name
    then (said.Done verb.FreeContext, with_contexts m seat (table.remove (contexts_at m.seats seat) name))
    else (said.Refused refusals.NoContext, m)
answer_to m seat user (command.UpdateContext names) clock =
    updated_or m seat user names (fault_of (contexts_at m.seats seat) names)

abbrev pub reply_of : Said × PlainMachine → Reply × PlainMachine
reply_of answer = (plain answer.0, answer.1)

abbrev pub enter_answer : PlainMachine → ℕ → List ℕ → Option Occupant → Result (Reply × PlainMachine) Fault
enter_answer m seat user None =
    Ok (
      plain said.Greeting,
      record m { seats = table.insert m.seats seat (record { user = user; contexts = table.empty }) },
    )
enter_answer m seat user (Some other) = Err fault.AlreadyEntered

abbrev pub by_user : Option Occupant → (List ℕ → Reply × PlainMachine) → Result (Reply × PlainMachine) Fault
by_user occupant does = option_map_or (λ o. Ok (does o.user)) occupant (Err fault.NotEntered)

abbrev pub plain_step : PlainMachine → ℕ → Event → ℤ → Result (Reply × PlainMachine) Fault
plain_step m seat (event.Enter user) clock = enter_answer m seat user (table.get m.seats seat)
plain_step m seat (event.Command c) clock =
    by_user (table.get m.seats seat) (λ user. reply_of (answer_to m seat user c clock))
plain_step m seat event.Drain clock = by_user (table.get m.seats seat) (λ user. drain_answer m seat user)
plain_step m seat event.Leave clock =
    by_user (table.get m.seats seat)
    (λ user. (plain said.Left, record m { seats = table.remove m.seats seat }))

-- ---- whole runs

abbrev pub plain_outcome : Result (Reply × PlainMachine) Fault → Result Reply Fault
plain_outcome (Ok stepped) = Ok stepped.0
plain_outcome (Err fault) = Err fault

abbrev pub plain_after : PlainMachine → Result (Reply × PlainMachine) Fault → PlainMachine
plain_after m (Ok stepped) = stepped.1
plain_after m (Err fault) = m

abbrev pub plain_run : PlainMachine → List Step → List (Result Reply Fault) × PlainMachine
plain_run m [] = ([], m)
plain_run m (step ∷ steps) =
    let stepped = plain_step m step.seat step.event step.clock in
    let rest = plain_run (plain_after m stepped) steps in
    (plain_outcome stepped ∷ rest.0, rest.1)

-- ---- the machine that keeps the present lists is this one

abbrev pub forgotten_kept : live.Kept → Kept
forgotten_kept (live.Snapshot shown) = Snapshot shown
forgotten_kept (live.Live shown present pending) = Notified shown pending
forgotten_kept live.Freed = Freed

abbrev pub forgotten_context : live.Context → Context
forgotten_context c =
    record { sought = c.sought; enumerated = c.enumerated; told = c.told; kept = forgotten_kept c.kept }

abbrev pub forgotten_occupant : live_seats.Occupant → Occupant
forgotten_occupant o = record { user = o.user; contexts = each_value forgotten_context o.contexts }

abbrev pub forgotten : Machine → PlainMachine
forgotten m = record { realm = m.realm; store = m.store; seats = each_value forgotten_occupant m.seats }

-- for every list of steps it answers the same, and it is that machine with the present lists forgotten
abbrev pub PlainLaw : Type 0
PlainLaw = (realm : Realm) (steps : List Step) → list_all (λ s. is_named s.event) steps ≡ true
    → plain_run (new_plain realm) steps
    ≡ ((run_of (new_machine realm) steps).0, forgotten (run_of (new_machine realm) steps).1)
