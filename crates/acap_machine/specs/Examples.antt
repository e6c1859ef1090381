-- Examples of what is sent of matches, what is served and refused, and what a step of the machine does, by
-- the definitions alone [RFC 2244 sections 2, 4.1, 6.4.1, 6.6.1 and 6.7].
use Rattle.std.specs.Prelude.{◌≡◌, ℕ, ℤ, List, [], ◌∷◌, map, true, Option, None, Some, Result, Ok, Err, codes}
use Rattle.std.specs.FinMap as table
use Rattle.acap_entries.specs.Store.{Store}
use Rattle.acap_entries.specs.declared.change.Change.{Change}
use Rattle.acap_commands.specs.Modifiers.{no_modifiers}
use Rattle.acap_commands.specs.Wanted.{Wanted}
use Rattle.acap_commands.specs.Wanted as key
use Rattle.acap_commands.specs.declared.command.Command.{Command}
use Rattle.acap_commands.specs.declared.command.Command.TheVariants as command
use Rattle.acap_commands.specs.declared.said.SearchReply.{SearchReply}
use Rattle.acap_commands.specs.declared.search_modifiers.Limit.{Limit}
use Rattle.acap_commands.specs.declared.search_modifiers.MakeContext.{MakeContext}
use Rattle.acap_commands.specs.declared.object_name.ObjectName.{ObjectName}
use Rattle.acap_commands.specs.declared.object_name.ObjectName.TheVariants as object_name
use Rattle.acap_commands.specs.declared.refusal.Refusal.{Refusal}
use Rattle.acap_commands.specs.declared.refusal.Refusal.TheVariants as refusals
use Rattle.acap_commands.specs.declared.reply.Reply.{Reply}
use Rattle.acap_commands.specs.declared.returns.ReturnItem.{ReturnItem}
use Rattle.acap_commands.specs.declared.said.Said.{Said}
use Rattle.acap_commands.specs.declared.said.Said.TheVariants as said
use Rattle.acap_commands.specs.declared.search.Search.{Search}
use Rattle.acap_commands.specs.declared.search_modifiers.SearchModifiers.{SearchModifiers}
use Rattle.acap_commands.specs.declared.store.StoreEntry.{StoreEntry}
use Rattle.acap_commands.specs.declared.target.Target.TheVariants as target
use Rattle.acap_commands.specs.declared.test.Test.TheVariants as test
use Rattle.acap_commands.specs.declared.command.Verb.TheVariants as verb
use Rattle.acap_commands.specs.declared.event.Event.TheVariants as event
use Rattle.acap_commands.specs.declared.event.Fault.{Fault}
use Rattle.acap_commands.specs.declared.event.Fault.TheVariants as fault
use Rattle.acap_machine.specs.Changing.{changed_by}
use Rattle.acap_machine.specs.Machine.{Machine, user_at}
use Rattle.acap_machine.specs.Runs.{outcome_of, machine_after, stepped_at, run_of}
use Rattle.acap_machine.specs.Searching.{number_told, found_of, found_unless, view_refused_as, query_within}
use Rattle.acap_machine.specs.Searching.{search_answer}
use Rattle.acap_machine.specs.Serving.{answer_to}
use Rattle.acap_machine.specs.Stepping.{step_of, plain, IsFault}
use Rattle.acap_machine.specs.declared.step.Step.{Step}
use Rattle.acap_notices.specs.declared.told.Told.{Told}
use Rattle.acap_search.specs.Asking.{asked_of}
use Rattle.acap_search.specs.Fresh.{refusal_of, matches_of}
use Rattle.acap_search.specs.Matches.{Match}
use Rattle.acap_search.specs.declared.query.Query.{Query}
use Rattle.acap_search.specs.declared.query.SearchSpec.{SearchSpec}
use Rattle.acap_search.specs.declared.refusal.SearchRefusal.TheVariants as refusal
use Rattle.acap_store.specs.Planning.{plan}
use Rattle.acap_store.specs.declared.write.Write.TheVariants as write
use Rattle.acap_views.specs.Opening.{with_context, freed_by}
use Rattle.acap_views.specs.Ranging.{range_at}
use Rattle.acap_views.specs.Seats.{Seated}
use Rattle.acap_views.specs.Telling.{told_of, drain_of}
use Rattle.acap_views.specs.declared.refusal.ViewRefusal.{ViewRefusal}
use Rattle.acap_views.specs.declared.refusal.ViewRefusal.TheVariants as view

abbrev pub joe : List ℕ
joe = codes "joe"

abbrev pub home : List ℕ
home = codes "/option/user/joe/"

-- ---- what is sent of the matches of a query

-- with more than two matches the first alone
abbrev pub two : Option Limit
two = Some (record { over = 2; most = 1 })

pub record FoundExamples : Type 0 where
  -- without RETURN neither rows nor the last moment; with it both
  pub untold : (last : ℤ) (q : SearchSpec) (matches : List Match) → q.returns ≡ None
      → found_of last q None matches ≡ record { rows = []; last = None; total = None }
  pub told : (last : ℤ) (q : SearchSpec) (items : List ReturnItem) (a b c : Match) → q.returns ≡ Some items →
      found_of last q None (a ∷ b ∷ c ∷ [])
      ≡ record { rows = a.row ∷ b.row ∷ c.row ∷ []; last = Some last; total = None }
  -- LIMIT 2 1: two matches are both sent, of three the first, and that they are three
  pub within : (last : ℤ) (q : SearchSpec) (items : List ReturnItem) (a b : Match) → q.returns ≡ Some items →
      found_of last q two (a ∷ b ∷ []) ≡ record { rows = a.row ∷ b.row ∷ []; last = Some last; total = None }
  pub beyond : (last : ℤ) (q : SearchSpec) (items : List ReturnItem) (a b c : Match) → q.returns ≡ Some items
      →
      found_of last q two (a ∷ b ∷ c ∷ []) ≡ record { rows = a.row ∷ []; last = Some last; total = Some 3 }
  -- their number is sent without RETURN too
  pub counted : (last : ℤ) (q : SearchSpec) (a b c : Match) → q.returns ≡ None
      → found_of last q two (a ∷ b ∷ c ∷ []) ≡ record { rows = []; last = None; total = Some 3 }
  -- a number of more than 32 bits is printed as the greatest of them
  pub numbers : map number_told (0 ∷ 4_294_967_294 ∷ 4_294_967_295 ∷ 4_294_967_296 ∷ [])
      ≡ 0 ∷ 4_294_967_294 ∷ 4_294_967_295 ∷ 4_294_967_295 ∷ []

-- ---- what is served

abbrev pub all_in : List ℕ → SearchModifiers → Search
all_in dataset modifiers =
    record { target = target.Dataset dataset; modifiers = modifiers; key = key.One test.All }

abbrev pub enumerate_notify : MakeContext
enumerate_notify = record { enumerate = true; notify = true; name = codes "c" }

abbrev pub keeping : SearchModifiers
keeping = record no_modifiers { make_context = Some enumerate_notify; limit = two }

abbrev pub kept_query : Query
kept_query = (asked_of joe home keeping (key.One test.All)).query

pub record ServingExamples : Type 0 where
  pub noop : (m : Machine) (seat : ℕ) (user : List ℕ) (clock : ℤ)
      → answer_to m seat user command.Noop clock ≡ (said.Done verb.Noop, m)
  pub logout : (m : Machine) (seat : ℕ) (user : List ℕ) (clock : ℤ)
      → answer_to m seat user command.Logout clock ≡ (said.GoodBye, m)
  -- who has a seat is logged in
  pub login : (m : Machine) (seat : ℕ) (user mechanism : List ℕ) (clock : ℤ)
      → answer_to m seat user (command.Authenticate mechanism) clock ≡ (said.Refused refusals.LoggedIn, m)
  -- a STORE is answered as done once its change is performed, or refused as it is
  pub stores : (m : Machine) (seat : ℕ) (user : List ℕ) (entries : List StoreEntry) (clock : ℤ)
      (change : Change) →
      plan m.store m.realm user (write.Store entries) clock ≡ Ok change
      → answer_to m seat user (command.Store entries) clock ≡ (said.Done verb.Store, changed_by change m)
  pub refuses : (m : Machine) (seat : ℕ) (user : List ℕ) (entries : List StoreEntry) (clock : ℤ)
      (because : Refusal) →
      plan m.store m.realm user (write.Store entries) clock ≡ Err because
      → answer_to m seat user (command.Store entries) clock ≡ (said.Refused because, m)
  -- each list is changed under its own verb
  pub sets : (m : Machine) (seat : ℕ) (user : List ℕ) (object : ObjectName) (identifier letters : List ℕ)
      (clock : ℤ) (change : Change) →
      plan m.store m.realm user (write.SetAcl object identifier letters) clock ≡ Ok change
      → answer_to m seat user (command.SetAcl object identifier letters) clock
      ≡ (said.Done verb.SetAcl, changed_by change m)
  pub drops : (m : Machine) (seat : ℕ) (user : List ℕ) (object : ObjectName) (identifier : Option (List ℕ))
      (clock : ℤ) (change : Change) →
      plan m.store m.realm user (write.DeleteAcl object identifier) clock ≡ Ok change
      → answer_to m seat user (command.DeleteAcl object identifier) clock
      ≡ (said.Done verb.DeleteAcl, changed_by change m)
  -- `~` is the user's
  pub own : (m : Machine) (seat : ℕ) (modifiers : SearchModifiers)
      → search_answer m seat joe (all_in (codes "/option/~/") modifiers)
      ≡ search_answer m seat joe (all_in home modifiers)
  -- a search that is refused names the dataset that is missing
  pub missing : (found : SearchReply)
      → map (λ because. found_unless home (Some because) found)
      (refusal.RangeHere ∷ refusal.NoExist ∷ refusal.WayTooMany ∷ [])
      ≡ said.Refused refusals.RangeHere ∷ said.Refused (refusals.NoExist home)
      ∷ said.Refused refusals.WayTooMany ∷ []
  -- of contexts each refusal is sent as itself
  pub of_contexts :
      map view_refused_as (view.TryFreeContext ∷ view.NoContext ∷ view.FreedContext ∷ view.NotNotify ∷ [])
      ≡ refusals.TryFreeContext ∷ refusals.NoContext ∷ refusals.FreedContext ∷ refusals.NotNotify ∷ []
  -- of three matches LIMIT 2 1 lets one through, and the context keeps all three
  pub keeps : (m : Machine) (seat : ℕ) (clock : ℤ) (a b c : Match) (seats : Seated)
      → refusal_of m.store.records m.realm joe kept_query ≡ None
      → matches_of m.store.records m.realm joe kept_query.sought ≡ a ∷ b ∷ c ∷ []
      → with_context m.seats seat enumerate_notify kept_query.sought (a ∷ b ∷ c ∷ []) m.store.last
      ≡ Ok seats
      → answer_to m seat joe (command.Search (all_in home keeping)) clock
      ≡ (said.Searched (record { rows = []; last = None; total = Some 3 }), record m { seats = seats })
  -- where there is no place for it nothing is sent, and a search that is refused otherwise is refused so
  pub no_place : (m : Machine) (seat : ℕ) (clock : ℤ)
      → refusal_of m.store.records m.realm joe kept_query ≡ None
      → with_context m.seats seat enumerate_notify kept_query.sought
      (matches_of m.store.records m.realm joe kept_query.sought) m.store.last ≡ Err view.TryFreeContext
      → answer_to m seat joe (command.Search (all_in home keeping)) clock
      ≡ (said.Refused refusals.TryFreeContext, m)
  pub no_dataset : (m : Machine) (seat : ℕ) (clock : ℤ)
      → refusal_of m.store.records m.realm joe kept_query ≡ Some refusal.NoExist
      → answer_to m seat joe (command.Search (all_in home keeping)) clock
      ≡ (said.Refused (refusals.NoExist home), m)
  -- a context that is searched keeps its dataset, DEPTH and NOINHERIT
  pub query_within : (own : SearchSpec) (modifiers : SearchModifiers) (wanted : Wanted)
      → query_within own modifiers wanted
      ≡ record {
        sought = record own { key = wanted; sort = modifiers.sort; returns = modifiers.returns };
        hard_limit = modifiers.hard_limit;
      }
  pub searches_context : (m : Machine) (seat : ℕ) (clock : ℤ) (modifiers : SearchModifiers)
      (why : ViewRefusal) → range_at m.seats seat (codes "c") ≡ Err why
      → answer_to m seat joe
      (command.Search
      (record { target = target.Context (codes "c"); modifiers = modifiers; key = key.One test.All }))
      clock ≡ (said.Refused (view_refused_as why), m)
  pub frees : (m : Machine) (seat : ℕ) (name : List ℕ) (clock : ℤ) (seats : Seated)
      → freed_by m.seats seat name ≡ Ok seats
      → answer_to m seat joe (command.FreeContext name) clock
      ≡ (said.Done verb.FreeContext, record m { seats = seats })
  pub frees_none : (m : Machine) (seat : ℕ) (name : List ℕ) (clock : ℤ)
      → freed_by m.seats seat name ≡ Err view.NoContext
      → answer_to m seat joe (command.FreeContext name) clock ≡ (said.Refused refusals.NoContext, m)
  pub updates : (m : Machine) (seat : ℕ) (names : List (List ℕ)) (clock : ℤ) (told : List Told)
      (seats : Seated) → told_of m.seats seat names m.store.last ≡ Ok (told, seats)
      → answer_to m seat joe (command.UpdateContext names) clock
      ≡ (said.Updated told, record m { seats = seats })
  pub updates_none : (m : Machine) (seat : ℕ) (names : List (List ℕ)) (clock : ℤ) (why : ViewRefusal)
      → told_of m.seats seat names m.store.last ≡ Err why
      → answer_to m seat joe (command.UpdateContext names) clock ≡ (said.Refused (view_refused_as why), m)
  -- the owner of a dataset always reads and administers it, and may be given the rest
  pub owner : (s : Store) (seats : Seated) (seat : ℕ) (clock : ℤ)
      → (answer_to (record { realm = record { administrators = []; groups = [] }; store = s; seats = seats })
      seat joe (command.ListRights (object_name.Dataset (codes "/option/~/")) joe) clock).0
      ≡ said.RightsList (codes "ra" ∷ codes "x" ∷ codes "w" ∷ codes "i" ∷ [])
  -- an administrator has all
  pub administrator : (s : Store) (seats : Seated) (seat : ℕ) (clock : ℤ)
      → (answer_to
      (record {
        realm = record { administrators = codes "root" ∷ []; groups = [] };
        store = s;
        seats = seats;
      }) seat joe (command.ListRights (object_name.Dataset home) (codes "root")) clock).0
      ≡ said.RightsList (codes "xrwia" ∷ [])

-- ---- seats

pub record SeatLaw : Type 0 where
  -- a free seat is taken, one that is taken is not, and one that is left is free
  pub enters : (m : Machine) (seat : ℕ) (user : List ℕ) (clock : ℤ) → user_at m seat ≡ None →
      step_of m seat (event.Enter user) clock
      ≡ Ok (
        plain said.Greeting,
        record m { seats = table.insert m.seats seat (record { user = user; contexts = table.empty }) },
      )
  pub taken : (m : Machine) (seat : ℕ) (user other : List ℕ) (clock : ℤ) → user_at m seat ≡ Some other
      → step_of m seat (event.Enter user) clock ≡ Err fault.AlreadyEntered
  pub leaves : (m : Machine) (seat : ℕ) (user : List ℕ) (clock : ℤ) → user_at m seat ≡ Some user →
      step_of m seat event.Leave clock ≡ Ok (plain said.Left, record m { seats = table.remove m.seats seat })
  pub drains : (m : Machine) (seat : ℕ) (user : List ℕ) (clock : ℤ) → user_at m seat ≡ Some user →
      step_of m seat event.Drain clock
      ≡ Ok (
        plain (said.Drained (drain_of m.seats seat).0),
        record m { seats = (drain_of m.seats seat).1 },
      )
  -- a command is its user's
  pub asks : (m new : Machine) (seat : ℕ) (user : List ℕ) (c : Command) (clock : ℤ) (words : Said)
      → user_at m seat ≡ Some user →
      answer_to m seat user c clock ≡ (words, new)
      → step_of m seat (event.Command c) clock ≡ Ok (plain words, new)
  -- nobody asks from a free seat, and a fault leaves the machine as it was
  pub nobody : (m : Machine) (seat : ℕ) (c : Command) (clock : ℤ) → user_at m seat ≡ None
      → step_of m seat (event.Command c) clock ≡ Err fault.NotEntered
  pub nobody_leaves : (m : Machine) (seat : ℕ) (clock : ℤ) → user_at m seat ≡ None
      → step_of m seat event.Leave clock ≡ Err fault.NotEntered
  pub nobody_drains : (m : Machine) (seat : ℕ) (clock : ℤ) → user_at m seat ≡ None
      → step_of m seat event.Drain clock ≡ Err fault.NotEntered
  pub stays : (m : Machine) (f : Fault) → machine_after m (Err f) ≡ m
  -- each step of a run is made of the machine that the one before it left
  pub second : (m : Machine) (a b : Step)
      → (run_of m (a ∷ b ∷ [])).0 ≡ outcome_of (stepped_at m a)
      ∷ outcome_of (stepped_at (machine_after m (stepped_at m a)) b) ∷ []
  pub last : (m : Machine) (a : Step) → (run_of m (a ∷ [])).1 ≡ machine_after m (stepped_at m a)
  -- a full history is never the machine's fault
  pub never_full : (stepped : Result (Reply × Machine) Fault) → IsFault stepped fault.HistoryFull → ⊥
