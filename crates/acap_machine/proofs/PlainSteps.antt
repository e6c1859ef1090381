-- Each step, and so each run, of the machine that keeps no present lists is that of the one which keeps them, with these forgotten.
use Rattle.std.proofs.Common.{◌≡◌, ℕ, ℤ, Bool, true, false, cond, List, [], ◌∷◌, Option, Some, None, Result, Ok, Err, refl, sym, subst, ap, ◌∙◌, flat_map, option_map}
use Rattle.std.proofs.lemmas.Bool.{and_parts}
use Rattle.std.specs.Cmp.{nat_cmp_total}
use Rattle.std.specs.FinMap as table
use Rattle.std.specs.FinMap.{nat_cmp-IsAntisymmetric}
use Rattle.std.specs.List.{list_all}
use Rattle.std.specs.Option.{option_map_or}
use Rattle.acap_entries.specs.declared.change.Change.{Change}
use Rattle.acap_commands.specs.Wanted.{Wanted}
use Rattle.acap_commands.specs.declared.command.Command.{Command}
use Rattle.acap_commands.specs.declared.command.Command.TheVariants as command
use Rattle.acap_commands.specs.declared.event.Event.{Event}
use Rattle.acap_commands.specs.declared.event.Event.TheVariants as event
use Rattle.acap_commands.specs.declared.event.Fault.{Fault}
use Rattle.acap_commands.specs.declared.search_modifiers.Limit.{Limit}
use Rattle.acap_commands.specs.declared.search_modifiers.MakeContext.{MakeContext}
use Rattle.acap_commands.specs.declared.refusal.Refusal.{Refusal}
use Rattle.acap_commands.specs.declared.refusal.Refusal.TheVariants as refusals
use Rattle.acap_commands.specs.declared.reply.Reply.{Reply}
use Rattle.acap_commands.specs.declared.said.Said.{Said}
use Rattle.acap_commands.specs.declared.said.Said.TheVariants as said
use Rattle.acap_commands.specs.declared.search_modifiers.SearchModifiers.{SearchModifiers}
use Rattle.acap_commands.specs.declared.target.Target.{Target}
use Rattle.acap_commands.specs.declared.target.Target.TheVariants as target
use Rattle.acap_commands.specs.declared.command.Verb.{Verb}
use Rattle.acap_commands.specs.declared.command.Verb.TheVariants as verb
use Rattle.acap_machine.specs.Following.{is_named, IsCurrentMachine}
use Rattle.acap_machine.specs.Machine.{Machine, new_machine, user_at}
use Rattle.acap_machine.specs.Plain as plain
use Rattle.acap_machine.specs.Plain.{PlainMachine, PlainLaw, forgotten, forgotten_context, forgotten_occupant, plain_step, plain_outcome, plain_after, plain_run, new_plain}
use Rattle.acap_machine.specs.Runs.{run_of, stepped_at, outcome_of, machine_after}
use Rattle.acap_machine.specs.Searching.{found_of, kept_if, found_or, searched_over, searched_in, searched_within, seated_or}
use Rattle.acap_machine.specs.Serving.{answer_to, written_or, free_answer, update_answer, updated_or}
use Rattle.acap_machine.specs.Stepping.{step_of, plain as untagged, reply_of, enter_answer, by_user, drained_at, left_at}
use Rattle.acap_machine.specs.declared.step.Step.{Step}
use Rattle.acap_machine.proofs.Following.{current, after_step}
use Rattle.acap_machine.proofs.Plain.{forgotten_contexts, forgotten_insert, forgotten_remove, forgotten_empty, forgotten_has, forgotten_full, forgotten_at, forgotten_with, seat_get, with_live, changed_forgotten, fault_forgotten, all_told, all_updated, all_drained, drain_forgotten, made_kept, ranged_forgotten}
use Rattle.acap_rights.specs.declared.realm.Realm.{Realm}
use Rattle.acap_search.specs.Asking.{asked_of}
use Rattle.acap_search.specs.Fresh.{matches_of, refusal_of}
use Rattle.acap_search.specs.Matches.{Match}
use Rattle.acap_search.specs.declared.query.SearchRequest.{SearchRequest}
use Rattle.acap_search.specs.declared.query.SearchSpec.{SearchSpec}
use Rattle.acap_search.specs.declared.refusal.SearchRefusal.{SearchRefusal}
use Rattle.acap_store.specs.DatasetLaws.{SoundLaw}
use Rattle.acap_store.specs.Planning.{plan}
use Rattle.acap_store.specs.declared.write.Write.TheVariants as write
use Rattle.acap_views.proofs.CurrentLemmas.{AreCurrent}
use Rattle.acap_views.proofs.ValueLemmas.{insert_value, remove_value, empty_value}
use Rattle.acap_views.specs.Contexts.{Contexts, context_of}
use Rattle.acap_views.specs.Laws as views
use Rattle.acap_views.specs.Maps.{each_kept}
use Rattle.acap_views.specs.Opening.{is_full}
use Rattle.acap_views.specs.Seats.{Occupant, contexts_at, with_contexts}
use Rattle.acap_views.specs.Telling.{fault_of, told_in_turn, after_updates, after_drain, unless_faulty}
use Rattle.acap_views.specs.declared.refusal.ViewRefusal.{ViewRefusal}
use Rattle.acap_views.specs.declared.refusal.ViewRefusal.TheVariants as view

-- what is answered, and the machine with its present lists forgotten
abbrev forgotten_answer : {A : Type 0} → A × Machine → A × PlainMachine
forgotten_answer answer = (answer.0, forgotten answer.1)

-- ---- commands that write

written_forgotten : (m : Machine) (done : Verb) (r : Result Change Refusal) → plain.write_answer (forgotten m) done r ≡ forgotten_answer (written_or m done r)
written_forgotten m done (Ok change) = λ i. (said.Done done, changed_forgotten m change i)
written_forgotten m done (Err refusal) = refl

-- ---- searches

module _ (m : Machine) (seat : ℕ) where
  abbrev own : Contexts
  own = contexts_at m.seats seat

  -- contexts at the seat, made of those there
  seat_with : (contexts : plain.Contexts) (new : Contexts) → contexts ≡ forgotten_contexts new → plain.with_contexts (forgotten m) seat contexts ≡ forgotten (with_live m seat new)
  seat_with contexts new e = ap (λ (cs : plain.Contexts). plain.with_contexts (forgotten m) seat cs) e ∙ forgotten_with m seat new

  abbrev plain_made : MakeContext → SearchSpec → List Match → plain.Context
  plain_made make sought found = record { sought = sought; enumerated = make.enumerate; told = m.store.last; kept = plain.kept_of make.notify found }

  made_forgotten : (make : MakeContext) (sought : SearchSpec) (found : List Match) → plain_made make sought found ≡ forgotten_context (context_of make sought found m.store.last)
  made_forgotten make sought found = λ i. record { sought = sought; enumerated = make.enumerate; told = m.store.last; kept = made_kept make.notify found i }

  inserted : (make : MakeContext) (sought : SearchSpec) (found : List Match)
      → table.insert (plain.contexts_at (forgotten m).seats seat) make.name (plain_made make sought found) ≡ forgotten_contexts (table.insert own make.name (context_of make sought found m.store.last))
  inserted make sought found =
      (λ i. table.insert (forgotten_at m seat i) make.name (made_forgotten make sought found i)) ∙ sym (forgotten_insert own make.name (context_of make sought found m.store.last))

  full_at : (name : List ℕ) → plain.is_full (plain.contexts_at (forgotten m).seats seat) name ≡ is_full own name
  full_at name = ap (λ (cs : plain.Contexts). plain.is_full cs name) (forgotten_at m seat) ∙ forgotten_full own name

  made_if : (full : Bool) (words : Said) (new : Contexts) (refusal : Refusal)
      → cond full (said.Refused refusals.TryFreeContext, forgotten m) (words, forgotten (with_live m seat new))
      ≡ forgotten_answer (seated_or m words (cond full (Err view.TryFreeContext) (Ok (with_contexts m.seats seat new))))
  made_if true words new refusal = refl
  made_if false words new refusal = refl

  kept_forgotten : (make : Option MakeContext) (sought : SearchSpec) (limit : Option Limit) (found : List Match)
      → plain.kept_if (forgotten m) seat make sought found (said.Searched (found_of m.store.last sought limit found)) ≡ forgotten_answer (kept_if m seat make sought limit found)
  kept_forgotten None sought limit found = refl
  kept_forgotten (Some make) sought limit found =
      let words = said.Searched (found_of m.store.last sought limit found) in
      let new = table.insert own make.name (context_of make sought found m.store.last) in
      (λ i. cond (full_at make.name i) (said.Refused refusals.TryFreeContext, forgotten m) (words, seat_with _ new (inserted make sought found) i))
      ∙ made_if (is_full own make.name) words new refusals.TryFreeContext

  found_forgotten : (asked : SearchRequest) (r : Option SearchRefusal) (found : List Match) → plain.found_or (forgotten m) seat asked r found ≡ forgotten_answer (found_or m seat asked r found)
  found_forgotten asked (Some refusal) found = refl
  found_forgotten asked None found = kept_forgotten asked.make_context asked.query.sought asked.limit found

  search_forgotten : (user : List ℕ) (t : Target) (modifiers : SearchModifiers) (key : Wanted)
      → plain.search_answer (forgotten m) seat user t modifiers key ≡ forgotten_answer (searched_in m seat user t modifiers key)
  unfolding searched_over
  search_forgotten user (target.Dataset dataset) modifiers key =
      let asked = asked_of user dataset modifiers key in
      found_forgotten asked (refusal_of m.store.records m.realm user asked.query) (matches_of m.store.records m.realm user asked.query.sought)
  search_forgotten user (target.Context name) modifiers key = λ i. (
    searched_within m.store m.realm user
        ((ap (λ (cs : plain.Contexts). plain.ranged_of (table.get cs name)) (forgotten_at m seat) ∙ ranged_forgotten own name) i) modifiers key,
    forgotten m,
  )

  -- ---- FREECONTEXT

  freed_if : (there : Bool) (new : Contexts)
      → cond there (said.Done verb.FreeContext, forgotten (with_live m seat new)) (said.Refused refusals.NoContext, forgotten m)
      ≡ forgotten_answer (seated_or m (said.Done verb.FreeContext) (cond there (Ok (with_contexts m.seats seat new)) (Err view.NoContext)))
  freed_if true new = refl
  freed_if false new = refl

  freed_forgotten : (name : List ℕ)
      → cond (table.contains_key (plain.contexts_at (forgotten m).seats seat) name)
      (said.Done verb.FreeContext, plain.with_contexts (forgotten m) seat (table.remove (plain.contexts_at (forgotten m).seats seat) name)) (said.Refused refusals.NoContext, forgotten m)
      ≡ forgotten_answer (free_answer m seat name)
  freed_forgotten name =
      let new = table.remove own name in
      (λ i. cond ((ap (λ (cs : plain.Contexts). table.contains_key cs name) (forgotten_at m seat) ∙ forgotten_has own name) i)
      (said.Done verb.FreeContext, seat_with _ new (ap (λ (cs : plain.Contexts). table.remove cs name) (forgotten_at m seat) ∙ sym (forgotten_remove own name)) i)
      (said.Refused refusals.NoContext, forgotten m))
      ∙ freed_if (table.contains_key own name) new

  -- ---- UPDATECONTEXT, and a drain

  updated_if : (user : List ℕ) (names : List (List ℕ)) (why : Option ViewRefusal) → AreCurrent m.store m.realm user own
      → plain.updated_or (forgotten m) seat user names why
      ≡ forgotten_answer (updated_or m (unless_faulty why (told_in_turn own names m.store.last, with_contexts m.seats seat (after_updates own names m.store.last))))
  updated_if user names (Some why) all = refl
  updated_if user names None all = λ i. (
    said.Updated ((ap (λ (cs : plain.Contexts). plain.tolds_of (forgotten m) user cs names) (forgotten_at m seat) ∙ all_told m user own names all) i),
    seat_with _ (after_updates own names m.store.last)
        (ap (λ (cs : plain.Contexts). plain.updated_all (forgotten m) user cs names) (forgotten_at m seat) ∙ all_updated m user own names all) i,
  )

  updated_forgotten : (user : List ℕ) (names : List (List ℕ)) → AreCurrent m.store m.realm user own
      → plain.updated_or (forgotten m) seat user names (plain.fault_of (plain.contexts_at (forgotten m).seats seat) names) ≡ forgotten_answer (update_answer m seat names)
  updated_forgotten user names all =
      ap (plain.updated_or (forgotten m) seat user names)
      (ap (λ (cs : plain.Contexts). plain.fault_of cs names) (forgotten_at m seat) ∙ fault_forgotten own names)
      ∙ updated_if user names (fault_of own names) all

  drained_forgotten : (user : List ℕ) → AreCurrent m.store m.realm user own → plain.drain_answer (forgotten m) seat user ≡ forgotten_answer (drained_at m seat)
  drained_forgotten user all = λ i. (
    untagged (said.Drained
        ((ap (λ (cs : plain.Contexts). flat_map (λ (e : List ℕ × plain.Context). plain.drain_tolds e.0 e.1.kept) (table.entries cs)) (forgotten_at m seat) ∙ drain_forgotten own) i)),
    seat_with _ (each_kept after_drain own)
        (ap (each_kept (λ (c : plain.Context). plain.drained_kept (forgotten m) user c c.kept)) (forgotten_at m seat) ∙ all_drained m user own all) i,
  )

  -- ---- every command

  served_forgotten : (user : List ℕ) (c : Command) (clock : ℤ) → AreCurrent m.store m.realm user own
      → plain.answer_to (forgotten m) seat user c clock ≡ forgotten_answer (answer_to m seat user c clock)
  unfolding answer_to plain.answer_to
  served_forgotten user command.Noop clock all = refl
  served_forgotten user command.Logout clock all = refl
  served_forgotten user (command.Authenticate mechanism) clock all = refl
  served_forgotten user (command.Store entries) clock all = written_forgotten m verb.Store (plan m.store m.realm user (write.Store entries) clock)
  served_forgotten user (command.Search search) clock all = search_forgotten user search.target search.modifiers search.key
  served_forgotten user (command.SetAcl object identifier letters) clock all =
      written_forgotten m verb.SetAcl (plan m.store m.realm user (write.SetAcl object identifier letters) clock)
  served_forgotten user (command.DeleteAcl object identifier) clock all =
      written_forgotten m verb.DeleteAcl (plan m.store m.realm user (write.DeleteAcl object identifier) clock)
  served_forgotten user (command.MyRights object) clock all = refl
  served_forgotten user (command.ListRights object identifier) clock all = refl
  served_forgotten user (command.DeletedSince dataset since) clock all = refl
  served_forgotten user (command.FreeContext name) clock all = freed_forgotten name
  served_forgotten user (command.UpdateContext names) clock all = updated_forgotten user names all

  -- ---- every event

  abbrev forgotten_step : Result (Reply × Machine) Fault → Result (Reply × PlainMachine) Fault
  forgotten_step (Ok stepped) = Ok (forgotten_answer stepped)
  forgotten_step (Err fault) = Err fault

  entered_if : (user : List ℕ) (x : Option Occupant)
      → plain.enter_answer (forgotten m) seat user (option_map forgotten_occupant x) ≡ forgotten_step (enter_answer m seat user (option_map (λ (o : Occupant). o.user) x))
  entered_if user None = λ i. Ok (
    untagged said.Greeting,
    record {
      realm = m.realm;
      store = m.store;
      seats = ((λ j. table.insert (forgotten m).seats seat (record { user = user; contexts = sym forgotten_empty j }))
          ∙ sym (insert_value nat_cmp_total nat_cmp-IsAntisymmetric forgotten_occupant m.seats seat (record { user = user; contexts = table.empty }))) i;
    },
  )
  entered_if user (Some other) = refl

  entered_forgotten : (user : List ℕ) → plain.enter_answer (forgotten m) seat user (table.get (forgotten m).seats seat) ≡ forgotten_step (enter_answer m seat user (user_at m seat))
  entered_forgotten user = ap (plain.enter_answer (forgotten m) seat user) (seat_get m seat) ∙ entered_if user (table.get m.seats seat)

  by_user_if : (x : Option Occupant) (does : List ℕ → Reply × PlainMachine) (acts : List ℕ → Reply × Machine)
      → ((user : List ℕ) → option_map (λ (o : Occupant). o.user) x ≡ Some user → does user ≡ forgotten_answer (acts user))
      → plain.by_user (option_map forgotten_occupant x) does ≡ forgotten_step (by_user (option_map (λ (o : Occupant). o.user) x) acts)
  by_user_if None does acts same = refl
  by_user_if (Some o) does acts same = ap Ok (same o.user refl)

  by_user_forgotten : (does : List ℕ → Reply × PlainMachine) (acts : List ℕ → Reply × Machine)
      → ((user : List ℕ) → user_at m seat ≡ Some user → does user ≡ forgotten_answer (acts user))
      → plain.by_user (table.get (forgotten m).seats seat) does ≡ forgotten_step (by_user (user_at m seat) acts)
  by_user_forgotten does acts same = ap (λ x. plain.by_user x does) (seat_get m seat) ∙ by_user_if (table.get m.seats seat) does acts same

  left_forgotten : (untagged said.Left, record (forgotten m) { seats = table.remove (forgotten m).seats seat }) ≡ forgotten_answer (left_at m seat)
  left_forgotten = λ i. (
    untagged said.Left,
    record {
      realm = m.realm;
      store = m.store;
      seats = sym (remove_value nat_cmp_total nat_cmp-IsAntisymmetric forgotten_occupant m.seats seat) i;
    },
  )

  some_same : (a b : List ℕ) → Some a ≡ Some b → a ≡ b
  some_same a b e = cc

  current_at : (user : List ℕ) → IsCurrentMachine m → user_at m seat ≡ Some user → AreCurrent m.store m.realm user own
  current_at user is at =
      elim (table.get m.seats seat) as (λ x. table.get m.seats seat ≡ x → option_map (λ (o : Occupant). o.user) x ≡ Some user
      → AreCurrent m.store m.realm user (option_map_or (λ (o : Occupant). o.contexts) x table.empty)) [
        | None ↦ λ e f. absurd (cc (f))
        | Some o ↦ λ e f. subst (λ who. AreCurrent m.store m.realm who o.contexts) (some_same o.user user f) (is.sound.current.all seat o e).each
      ] refl at

  pub step_forgotten : (e : Event) (clock : ℤ) → IsCurrentMachine m → plain_step (forgotten m) seat e clock ≡ forgotten_step (step_of m seat e clock)
  step_forgotten (event.Enter user) clock is = entered_forgotten user
  step_forgotten (event.Command c) clock is =
      by_user_forgotten _ (λ user. reply_of (answer_to m seat user c clock))
      (λ user at. ap (λ (answer : Said × PlainMachine). plain.reply_of answer) (served_forgotten user c clock (current_at user is at)))
  step_forgotten event.Drain clock is = by_user_forgotten _ (λ user. drained_at m seat) (λ user at. drained_forgotten user (current_at user is at))
  step_forgotten event.Leave clock is = by_user_forgotten _ (λ user. left_at m seat) (λ user at. left_forgotten)

-- ---- whole runs

outcome_forgotten : (m : Machine) (seat : ℕ) (r : Result (Reply × Machine) Fault) → plain_outcome (forgotten_step m seat r) ≡ outcome_of r
outcome_forgotten m seat (Ok stepped) = refl
outcome_forgotten m seat (Err fault) = refl

after_forgotten : (m : Machine) (seat : ℕ) (r : Result (Reply × Machine) Fault) → plain_after (forgotten m) (forgotten_step m seat r) ≡ forgotten (machine_after m r)
after_forgotten m seat (Ok stepped) = refl
after_forgotten m seat (Err fault) = refl

module _ (views_law : views.CurrentLaw) (store_law : SoundLaw) where
  abbrev forgotten_run : List (Result Reply Fault) × Machine → List (Result Reply Fault) × PlainMachine
  forgotten_run run = (run.0, forgotten run.1)

  runs_forgotten : (m : Machine) (steps : List Step) → list_all (λ s. is_named s.event) steps ≡ true → IsCurrentMachine m → plain_run (forgotten m) steps ≡ forgotten_run (run_of m steps)
  runs_forgotten m [] named is = refl
  runs_forgotten m (step ∷ steps) named is =
      let both = and_parts _ _ named in
      let stepped = stepped_at m step in
      let same = step_forgotten m step.seat step.event step.clock is in
      let next = after_step views_law store_law m step stepped refl both.0 is in
      let outcome = ap plain_outcome same ∙ outcome_forgotten m step.seat stepped in
      let rest = ap (λ n. plain_run n steps) (ap (plain_after (forgotten m)) same ∙ after_forgotten m step.seat stepped) ∙ runs_forgotten (machine_after m stepped) steps both.1 next in
      λ i. (outcome i ∷ (rest i).0, (rest i).1)

  begins_forgotten : (realm : Realm) → new_plain realm ≡ forgotten (new_machine realm)
  begins_forgotten realm = λ i. record {
    realm = realm;
    store = (new_machine realm).store;
    seats = sym (empty_value nat_cmp_total nat_cmp-IsAntisymmetric forgotten_occupant) i;
  }

  pub plain_law : PlainLaw
  plain_law realm steps named =
      ap (λ n. plain_run n steps) (begins_forgotten realm)
      ∙ runs_forgotten (new_machine realm) steps named ((current views_law store_law).begins realm)
