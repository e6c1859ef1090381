-- What the machine says to an event, and that no live context is said to be freed.
use Rattle.std.proofs.Common.{◌≡◌, ℕ, ◌==◌, ℤ, Bool, true, false, cond, ◌&&◌, ◌||◌, List, [], ◌∷◌, Option, Some, None, Result, Ok, Err, refl, sym, ap, ◌∙◌, flat_map, map as each}
use Rattle.std.specs.Cmp.{first_so, second_so}
use Rattle.std.specs.Cmp.Lexicographic.{nat_list_cmp_total, texts_ties}
use Rattle.std.specs.FinMap as table
use Rattle.std.specs.FinMap.{find, is_sorted, get-remove}
use Rattle.std.specs.Option.{option_map_or, option_and_then}
use Rattle.std.specs.Ordering.{eq_by_cmp, is_eq}
use Rattle.std.specs.declared.cmp.Ordering.{Ordering}
use Rattle.std.specs.declared.cmp.Ordering.TheVariants.{Less, Equal, Greater}
use Rattle.std.proofs.lemmas.Bool.{or_from}
use Rattle.std.proofs.lemmas.List.Folds.{list_any-append}
use Rattle.acap_commands.specs.Statuses.{status_of}
use Rattle.acap_commands.specs.declared.command.Command.{Command}
use Rattle.acap_commands.specs.declared.command.Command.TheVariants as command
use Rattle.acap_commands.specs.declared.event.Event.{Event}
use Rattle.acap_commands.specs.declared.event.Event.TheVariants as event
use Rattle.acap_commands.specs.declared.search_modifiers.Limit.{Limit}
use Rattle.acap_commands.specs.declared.search_modifiers.MakeContext.{MakeContext}
use Rattle.acap_commands.specs.declared.refusal.Refusal.{Refusal}
use Rattle.acap_commands.specs.declared.reply.Reply.{Reply}
use Rattle.acap_commands.specs.declared.said.Said.{Said}
use Rattle.acap_commands.specs.declared.said.Said.TheVariants as said
use Rattle.acap_commands.specs.declared.search.Search.{Search}
use Rattle.acap_commands.specs.declared.search_modifiers.SearchModifiers.{SearchModifiers}
use Rattle.acap_commands.specs.declared.said.SearchReply.{SearchReply}
use Rattle.acap_commands.specs.declared.target.Target.{Target}
use Rattle.acap_commands.specs.declared.target.Target.TheVariants as target
use Rattle.acap_commands.specs.declared.command.Verb.{Verb}
use Rattle.acap_commands.specs.Wanted.{Wanted}
use Rattle.acap_entries.specs.Orders.{octets_cmp, octets_eq}
use Rattle.acap_entries.specs.declared.change.Change.{Change}
use Rattle.acap_ordmap.proofs.Logic.{true_from_T}
use Rattle.acap_grammar.specs.Sendable.{Fits, IsSendable}
use Rattle.acap_machine.specs.Client.{View, HeldLaw, client_after, made_over, live_kept, live_in, live_at, whole_after}
use Rattle.acap_machine.specs.Completing.{is_answer}
use Rattle.acap_machine.specs.Following.{IsCurrentMachine}
use Rattle.acap_machine.specs.Machine.{Machine, user_at}
use Rattle.acap_machine.specs.Searching.{found_unless, found_or, kept_if, searched_from, searched_in, searched_over, searched_within, seated_or}
use Rattle.acap_machine.specs.Serving.{answer_to, names_or, updated_or, written_or}
use Rattle.acap_machine.specs.Stepping.{drained_at, reply_of, step_of}
use Rattle.acap_machine.proofs.ClientSteps.{Sits, sits, put_contexts}
use Rattle.acap_machine.proofs.SeatLemmas.{freed_is}
use Rattle.acap_machine.proofs.StepLaws.{by_keeps, seated_keeps}
use Rattle.acap_machine.proofs.ServedLemmas.{search_good, view_good}
use Rattle.acap_notices.specs.declared.notice.Notice.{Notice}
use Rattle.acap_notices.specs.declared.told.Told.{Told}
use Rattle.acap_notices.specs.declared.told.Told.TheVariants as told
use Rattle.acap_search.specs.Asking.{asked_of}
use Rattle.acap_search.specs.Matches.{Match}
use Rattle.acap_search.specs.declared.query.SearchRequest.{SearchRequest}
use Rattle.acap_search.specs.declared.query.SearchSpec.{SearchSpec}
use Rattle.acap_search.specs.declared.refusal.SearchRefusal.{SearchRefusal}
use Rattle.acap_search.specs.declared.refusal.SearchRefusal.TheVariants as refusal
use Rattle.acap_views.proofs.WaitingLemmas.{tied_none}
use Rattle.acap_views.specs.Contexts.{Kept, Snapshot, Live, Freed, Context, Contexts}
use Rattle.acap_views.specs.Opening.{freed_by}
use Rattle.acap_views.specs.Ranging.{Ranged}
use Rattle.acap_views.specs.Seats.{Seated, contexts_at}
use Rattle.acap_views.specs.Telling.{after_update, drain_told, fault_of, notes_of, told_by_name, told_in_turn, unless_faulty}
use Rattle.acap_views.specs.declared.refusal.ViewRefusal.{ViewRefusal}
use Rattle.acap_views.specs.declared.refusal.ViewRefusal.TheVariants as view
use Rattle.acap_wire.proofs.Replies.{Answers, AnswersSearch, AnswersFree, frees, frees_done, frees_said}
use Rattle.acap_wire.proofs.Tolds.{frees_among, frees_in}

-- ---- what is said to a SEARCH

-- a SEARCH that makes the context that it names: over a context it makes none
abbrev pub IsMakeable : Command → Type 0
IsMakeable (command.Search s) = made_over s.target s.modifiers.make_context ≡ s.modifiers.make_context
IsMakeable other = Unit {0}

abbrev pub Finds : Said → Type 0
Finds (said.Searched found) = Unit {0}
Finds (said.Refused why) = is_answer (status_of why) ≡ true
Finds other = ⊥

unless_finds : (dataset : List ℕ) (because : Option SearchRefusal) (found : SearchReply) → Finds (found_unless dataset because found)
unless_finds dataset None found = tt
unless_finds dataset (Some why) found = search_good dataset why

seated_finds : (m : Machine) (found : SearchReply) (r : Result Seated ViewRefusal) → Finds (seated_or m (said.Searched found) r).0
seated_finds m found (Ok seats) = tt
seated_finds m found (Err why) = view_good why

kept_finds : (m : Machine) (seat : ℕ) (make : Option MakeContext) (sought : SearchSpec) (limit : Option Limit) (matches : List Match) → Finds (kept_if m seat make sought limit matches).0
kept_finds m seat None sought limit matches = tt
kept_finds m seat (Some make) sought limit matches = seated_finds m _ _

over_finds : (m : Machine) (seat : ℕ) (asked : SearchRequest) (because : Option SearchRefusal) (matches : List Match) → Finds (found_or m seat asked because matches).0
over_finds m seat asked (Some why) matches = search_good asked.query.sought.dataset why
over_finds m seat asked None matches = kept_finds m seat asked.make_context asked.query.sought asked.limit matches

within_finds : (m : Machine) (user : List ℕ) (from : Result Ranged ViewRefusal) (modifiers : SearchModifiers) (key : Wanted) → Finds (searched_within m.store m.realm user from modifiers key)
unfolding searched_from
within_finds m user (Ok from) modifiers key = unless_finds _ _ _
within_finds m user (Err why) modifiers key = view_good why

pub searched_finds : (m : Machine) (seat : ℕ) (user : List ℕ) (t : Target) (modifiers : SearchModifiers) (key : Wanted) → Finds (searched_in m seat user t modifiers key).0
unfolding searched_over
searched_finds m seat user (target.Dataset dataset) modifiers key = over_finds m seat (asked_of user dataset modifiers key) _ _
searched_finds m seat user (target.Context name) modifiers key = within_finds m user _ modifiers key

search_answered : (s : Search) (words : Said) → IsMakeable (command.Search s) → Finds words → AnswersSearch s words
search_answered s (said.Searched found) makes f = makes
search_answered s (said.Refused why) makes f = f
search_answered s said.Greeting makes f = absurd f
search_answered s said.Left makes f = absurd f
search_answered s (said.Drained tolds) makes f = absurd f
search_answered s (said.Updated tolds) makes f = absurd f
search_answered s (said.Done verb) makes f = absurd f
search_answered s (said.Deleted names) makes f = absurd f
search_answered s (said.Rights rights) makes f = absurd f
search_answered s (said.RightsList rights) makes f = absurd f
search_answered s (said.Challenge challenge) makes f = absurd f
search_answered s said.GoodBye makes f = absurd f

-- ---- what is said to every command

free_answers : (m : Machine) (verb : Verb) (r : Result Seated ViewRefusal) → AnswersFree (seated_or m (said.Done verb) r).0
free_answers m verb (Ok seats) = tt
free_answers m verb (Err why) = view_good why

command_answers : (m : Machine) (seat : ℕ) (user : List ℕ) (c : Command) (clock : ℤ) → IsMakeable c → Answers c (answer_to m seat user c clock).0
unfolding answer_to
command_answers m seat user (command.Search s) clock makes = search_answered s _ makes (searched_finds m seat user s.target s.modifiers s.key)
command_answers m seat user (command.FreeContext name) clock makes = free_answers m _ (freed_by m.seats seat name)
command_answers m seat user command.Noop clock makes = tt
command_answers m seat user command.Logout clock makes = tt
command_answers m seat user (command.Authenticate mechanism) clock makes = tt
command_answers m seat user (command.Store entries) clock makes = tt
command_answers m seat user (command.SetAcl object identifier letters) clock makes = tt
command_answers m seat user (command.DeleteAcl object identifier) clock makes = tt
command_answers m seat user (command.MyRights object) clock makes = tt
command_answers m seat user (command.ListRights object identifier) clock makes = tt
command_answers m seat user (command.DeletedSince dataset since) clock makes = tt
command_answers m seat user (command.UpdateContext names) clock makes = tt

pub step_answers : (m : Machine) (seat : ℕ) (c : Command) (clock : ℤ) (reply : Reply) (new : Machine) → step_of m seat (event.Command c) clock ≡ Ok (reply, new) → IsMakeable c → Answers c reply.said
step_answers m seat c clock reply new e makes =
    by_keeps (λ r n. Answers c r.said) (user_at m seat) (λ user. reply_of (answer_to m seat user c clock)) reply new (λ user at. command_answers m seat user c clock makes) e

-- what is said to a user who enters
pub greeted : (m : Machine) (seat : ℕ) (user : List ℕ) (clock : ℤ) (reply : Reply) (new : Machine) → step_of m seat (event.Enter user) clock ≡ Ok (reply, new) → reply.said ≡ said.Greeting
greeted m seat user clock reply new e = seated_keeps (λ r n. r.said ≡ said.Greeting) m seat user (user_at m seat) reply new refl e

-- ---- an UPDATECONTEXT says of no context that it was freed

module _ (q : List ℕ) where
  notes_free : (other : List ℕ) (pending : List Notice) → frees_among q (each (told.Note other) pending) ≡ false
  notes_free other [] = refl
  notes_free other (n ∷ pending) = notes_free other pending

  kept_free : (other : List ℕ) (kept : Kept) → frees_among q (notes_of other kept) ≡ false
  kept_free other (Snapshot shown) = refl
  kept_free other (Live shown now pending) = notes_free other pending
  kept_free other Freed = refl

  found_free : (other : List ℕ) (found : Option Context) → frees_among q (option_map_or (λ (c : Context). notes_of other c.kept) found []) ≡ false
  found_free other None = refl
  found_free other (Some c) = kept_free other c.kept

  name_free : (contexts : Contexts) (other : List ℕ) (last : ℤ) → frees_among q (told_by_name contexts other last) ≡ false
  name_free contexts other last =
      list_any-append (frees_in q) (option_map_or (λ (c : Context). notes_of other c.kept) (table.get contexts other) []) (told.Upto other last ∷ [])
      ∙ or_from _ _ (found_free other (table.get contexts other)) refl

  names_free : (names : List (List ℕ)) (contexts : Contexts) (last : ℤ) → frees_among q (told_in_turn contexts names last) ≡ false
  names_free [] contexts last = refl
  names_free (name ∷ names) contexts last =
      list_any-append (frees_in q) (told_by_name contexts name last) (told_in_turn (after_update contexts name last) names last)
      ∙ or_from _ _ (name_free contexts name last) (names_free names (after_update contexts name last) last)

  updates_free : (m : Machine) (why : Option ViewRefusal) (tolds : List Told) (seats : Seated) → frees_among q tolds ≡ false → frees_said q (updated_or m (unless_faulty why (tolds, seats))).0 ≡ false
  updates_free m None tolds seats e = e
  updates_free m (Some refusal) tolds seats e = refl

  -- ---- nor is that said to another command

  finds_free : (words : Said) → Finds words → frees_said q words ≡ false
  finds_free (said.Searched found) f = refl
  finds_free (said.Refused why) f = refl
  finds_free said.Greeting f = absurd f
  finds_free said.Left f = absurd f
  finds_free (said.Drained tolds) f = absurd f
  finds_free (said.Updated tolds) f = absurd f
  finds_free (said.Done verb) f = absurd f
  finds_free (said.Deleted names) f = absurd f
  finds_free (said.Rights rights) f = absurd f
  finds_free (said.RightsList rights) f = absurd f
  finds_free (said.Challenge challenge) f = absurd f
  finds_free said.GoodBye f = absurd f

  written_free : (m : Machine) (verb : Verb) (r : Result Change Refusal) → frees_said q (written_or m verb r).0 ≡ false
  written_free m verb (Ok change) = refl
  written_free m verb (Err why) = refl

  deleted_free : (r : Result (List (List ℕ)) Refusal) → frees_said q (names_or r) ≡ false
  deleted_free (Ok names) = refl
  deleted_free (Err why) = refl

  and_none : (b : Bool) → (b && false) ≡ false
  and_none true = refl
  and_none false = refl

  -- ---- a live context

  live_removed : (m : Machine) (seat : ℕ) (own : Sits m seat) (name : List ℕ) (seats : Seated) → freed_by m.seats seat name ≡ Ok seats
      → live_at (record m { seats = seats }) seat q ≡ option_and_then live_in (cond (octets_eq q name) None (table.get (contexts_at m.seats seat) q))
  live_removed m seat own name seats e =
      ap (λ (s : Seated). option_and_then live_in (table.get (contexts_at s seat) q)) (sym (freed_is m.seats seats seat name e))
      ∙ (ap (λ (cs : Contexts). option_and_then live_in (table.get cs q)) (put_contexts m seat own (table.remove (contexts_at m.seats seat) name))
      ∙ (ap (option_and_then live_in) (get-remove nat_list_cmp_total (contexts_at m.seats seat) name q)
      ∙ ap (λ b. option_and_then live_in (cond b None (table.get (contexts_at m.seats seat) q))) (sym (texts_ties q name))))

  not_freed : (b : Bool) (found : Option Context) (x : View) → option_and_then live_in (cond b None found) ≡ Some x → (b && true) ≡ false
  not_freed true found x l = absurd (let none : None ≡ Some x = l in cc)
  not_freed false found x l = refl

  frees_not : (m : Machine) (seat : ℕ) (own : Sits m seat) (name : List ℕ) (verb : Verb) (r : Result Seated ViewRefusal) → freed_by m.seats seat name ≡ r → (x : View)
      → live_at (seated_or m (said.Done verb) r).1 seat q ≡ Some x → (octets_eq q name && frees_done name (seated_or m (said.Done verb) r).0) ≡ false
  frees_not m seat own name verb (Ok seats) e x l = not_freed (octets_eq q name) (table.get (contexts_at m.seats seat) q) x (sym (live_removed m seat own name seats e) ∙ l)
  frees_not m seat own name verb (Err why) e x l = and_none (octets_eq q name)

  command_frees : (m : Machine) (seat : ℕ) (own : Sits m seat) (user : List ℕ) (c : Command) (clock : ℤ) (x : View) → live_at (answer_to m seat user c clock).1 seat q ≡ Some x
      → frees q c (answer_to m seat user c clock).0 ≡ false
  unfolding answer_to
  command_frees m seat own user (command.Search s) clock x l = finds_free _ (searched_finds m seat user s.target s.modifiers s.key)
  command_frees m seat own user (command.FreeContext name) clock x l = frees_not m seat own name _ (freed_by m.seats seat name) refl x l
  command_frees m seat own user command.Noop clock x l = refl
  command_frees m seat own user command.Logout clock x l = refl
  command_frees m seat own user (command.Authenticate mechanism) clock x l = refl
  command_frees m seat own user (command.Store entries) clock x l = written_free m _ _
  command_frees m seat own user (command.SetAcl object identifier letters) clock x l = written_free m _ _
  command_frees m seat own user (command.DeleteAcl object identifier) clock x l = written_free m _ _
  command_frees m seat own user (command.MyRights object) clock x l = refl
  command_frees m seat own user (command.ListRights object identifier) clock x l = refl
  command_frees m seat own user (command.DeletedSince dataset since) clock x l = deleted_free _
  command_frees m seat own user (command.UpdateContext names) clock x l =
      updates_free m (fault_of (contexts_at m.seats seat) names) _ _ (names_free names (contexts_at m.seats seat) m.store.last)

  pub step_frees : (m : Machine) (seat : ℕ) (c : Command) (clock : ℤ) (reply : Reply) (new : Machine) (x : View) → step_of m seat (event.Command c) clock ≡ Ok (reply, new)
      → live_at new seat q ≡ Some x → frees q c reply.said ≡ false
  step_frees m seat c clock reply new x e l =
      by_keeps (λ r n. live_at n seat q ≡ Some x → frees q c r.said ≡ false) (user_at m seat) (λ user. reply_of (answer_to m seat user c clock)) reply new
      (λ user at. command_frees m seat (sits m seat user at) user c clock x) e l

  -- ---- a drain

  abbrev is_freed : Kept → Bool
  is_freed (Snapshot shown) = false
  is_freed (Live shown now pending) = false
  is_freed Freed = true

  abbrev is_freed_at : Option Context → Bool
  is_freed_at None = false
  is_freed_at (Some context) = is_freed context.kept

  or_none : (b : Bool) → (b || false) ≡ (b && true)
  or_none true = refl
  or_none false = refl

  either_none : (b : Bool) → (b || false) ≡ b
  either_none true = refl
  either_none false = refl

  drain_free : (other : List ℕ) (kept : Kept) → frees_among q (drain_told other kept) ≡ (octets_eq q other && is_freed kept)
  drain_free other (Snapshot shown) = sym (and_none (octets_eq q other))
  drain_free other (Live shown now pending) = notes_free other pending ∙ sym (and_none (octets_eq q other))
  drain_free other Freed = or_none (octets_eq q other)

  tie : (r : Ordering) → is_eq r ≡ true → r ≡ Equal
  tie Less e = absurd (cc (e))
  tie Equal e = refl
  tie Greater e = absurd (cc (e))

  all_free : (es : List (List ℕ × Context)) → is_sorted octets_cmp es ≡ true → frees_among q (flat_map (λ e. drain_told e.0 e.1.kept) es) ≡ is_freed_at (find octets_cmp q es)
  all_free [] s = refl
  all_free (e ∷ es) s =
      list_any-append (frees_in q) (drain_told e.0 e.1.kept) (flat_map (λ e. drain_told e.0 e.1.kept) es)
      ∙ ((λ i. (drain_free e.0 e.1.kept ∙ ap (λ b. b && is_freed e.1.kept) (texts_ties q e.0)) i || all_free es (second_so _ _ s) i)
      ∙ elim (eq_by_cmp octets_cmp q e.0) as (λ b. eq_by_cmp octets_cmp q e.0 ≡ b → ((b && is_freed e.1.kept) || is_freed_at (find octets_cmp q es)) ≡ is_freed_at (cond b (Some e.1) (find octets_cmp q es))) [
        | true ↦ λ t. ap (λ o. is_freed e.1.kept || is_freed_at o) (tied_none nat_list_cmp_total (λ (c : Context). true) q e.0 es (tie _ t) (first_so _ _ s)) ∙ either_none (is_freed e.1.kept)
        | false ↦ λ t. refl
      ] refl)

  drained_free : (contexts : Contexts) → frees_among q (flat_map (λ e. drain_told e.0 e.1.kept) (table.entries contexts)) ≡ is_freed_at (table.get contexts q)
  drained_free contexts = all_free (table.entries contexts) (true_from_T _ (table.entries_sorted contexts)) ∙ ap is_freed_at (sym (table.get-entries contexts q))

  live_free : (context : Context) (kept : Kept) (x : View) → live_kept context kept ≡ Some x → is_freed kept ≡ false
  live_free context (Snapshot shown) x l = refl
  live_free context (Live shown now pending) x l = refl
  live_free context Freed x l = absurd cc

  found_live : (found : Option Context) (x : View) → option_and_then live_in found ≡ Some x → is_freed_at found ≡ false
  found_live None x l = refl
  found_live (Some context) x l = live_free context context.kept x l

  pub drain_frees : (m : Machine) (seat : ℕ) (clock : ℤ) (reply : Reply) (new : Machine) (x : View) → step_of m seat event.Drain clock ≡ Ok (reply, new)
      → live_at m seat q ≡ Some x → frees_said q reply.said ≡ false
  drain_frees m seat clock reply new x e l =
      by_keeps (λ r n. frees_said q r.said ≡ false) (user_at m seat) (λ user. drained_at m seat) reply new
      (λ user at. drained_free (contexts_at m.seats seat) ∙ found_live (table.get (contexts_at m.seats seat) q) x l) e

-- ---- a context is live after an event that it was live before, or that made it

module _ (law : HeldLaw) where
  lives : (m : Machine) (seat : ℕ) (e : Event) (clock : ℤ) (reply : Reply) (new : Machine) (q : List ℕ) (x : View) (found : Option View) → live_at m seat q ≡ found
      → step_of m seat e clock ≡ Ok (reply, new) → IsCurrentMachine m → live_at new seat q ≡ Some x
      → whole_after q e reply.said true ≡ true → client_after q e reply.said None ≡ None → (y : View) × (live_at m seat q ≡ Some y)
  lives m seat e clock reply new q x (Some y) at f is l w none = (y, at)
  lives m seat e clock reply new q x None at f is l w none =
      let held = law.own m seat e clock reply new q true None f is (λ y k w. absurd (let no : None ≡ Some y = sym at ∙ k in cc)) x l w in
      absurd (let no : None ≡ Some _ = sym none ∙ held in cc)

  pub lives_on : (m : Machine) (seat : ℕ) (e : Event) (clock : ℤ) (reply : Reply) (new : Machine) (q : List ℕ) (x : View)
      → step_of m seat e clock ≡ Ok (reply, new) → IsCurrentMachine m → live_at new seat q ≡ Some x
      → whole_after q e reply.said true ≡ true → client_after q e reply.said None ≡ None → (y : View) × (live_at m seat q ≡ Some y)
  lives_on m seat e clock reply new q x f is l w none = lives m seat e clock reply new q x (live_at m seat q) refl f is l w none

  elsewhere : (m : Machine) (other : ℕ) (e : Event) (clock : ℤ) (reply : Reply) (new : Machine) (seat : ℕ) (q : List ℕ) (x : View) (found : Option View) → live_at m seat q ≡ found
      → step_of m other e clock ≡ Ok (reply, new) → (seat == other) ≡ false → live_at new seat q ≡ Some x → (y : View) × (live_at m seat q ≡ Some y)
  elsewhere m other e clock reply new seat q x (Some y) at f apart l = (y, at)
  elsewhere m other e clock reply new seat q x None at f apart l =
      let held = law.others m other e clock reply new seat q true None f apart (λ y k w. absurd (let no : None ≡ Some y = sym at ∙ k in cc)) x l refl in
      absurd (let no : None ≡ Some _ = held in cc)

  pub live_elsewhere : (m : Machine) (other : ℕ) (e : Event) (clock : ℤ) (reply : Reply) (new : Machine) (seat : ℕ) (q : List ℕ) (x : View)
      → step_of m other e clock ≡ Ok (reply, new) → (seat == other) ≡ false → live_at new seat q ≡ Some x → (y : View) × (live_at m seat q ≡ Some y)
  live_elsewhere m other e clock reply new seat q x f apart l = elsewhere m other e clock reply new seat q x (live_at m seat q) refl f apart l

-- ---- commands that were read

pub makeable : (c : Command) → IsSendable c → IsMakeable c
makeable (command.Search s) is = makeable_search s.target s.modifiers is.fits
  where
    makeable_search : (t : Target) (modifiers : SearchModifiers) → Fits t modifiers → made_over t modifiers.make_context ≡ modifiers.make_context
    makeable_search (target.Dataset dataset) modifiers fits = refl
    makeable_search (target.Context name) modifiers fits = sym fits.1
makeable other is = tt
