-- What each event tells the client of a context, by the commands.
use Rattle.std.proofs.Common.{◌≡◌, ◌⊎◌, inl, inr, ◌==◌, eq-eqb, ℕ, ℤ, Bool, true, false, cond, ◌&&◌, Option, Some, None, Result, Ok, Err, List, ◌∷◌, refl, sym, ◌∙◌, ap, subst, option_map, map as each}
use Rattle.std.specs.Prelude.{◌++◌, is_some, is_none, length, take, min, nat_lt, flat_map}
use Rattle.std.specs.Cmp.{nat_cmp_total, unsigned_tied}
use Rattle.std.specs.Cmp.Lexicographic.{nat_list_cmp_total, texts_ties}
use Rattle.std.specs.FinMap as table
use Rattle.std.specs.FinMap.{get-insert, get-remove, get-empty}
use Rattle.std.specs.Option.{option_map_or, option_and_then}
use Rattle.std.proofs.Math.Seq.{take-length}
use Rattle.acap_entries.specs.Orders.{octets_cmp, octets_eq}
use Rattle.acap_entries.specs.declared.change.Change.{Change}
use Rattle.acap_commands.specs.declared.command.Command.{Command}
use Rattle.acap_commands.specs.declared.command.Command.TheVariants as command
use Rattle.acap_commands.specs.declared.event.Event.{Event}
use Rattle.acap_commands.specs.declared.event.Event.TheVariants as event
use Rattle.acap_commands.specs.declared.search_modifiers.Limit.{Limit}
use Rattle.acap_commands.specs.declared.search_modifiers.MakeContext.{MakeContext}
use Rattle.acap_commands.specs.declared.refusal.Refusal.{Refusal}
use Rattle.acap_commands.specs.declared.reply.Reply.{Reply}
use Rattle.acap_commands.specs.declared.said.Said.{Said}
use Rattle.acap_commands.specs.declared.said.Said.TheVariants as said
use Rattle.acap_commands.specs.declared.returns.ReturnItem.{ReturnItem}
use Rattle.acap_commands.specs.declared.search.Search.{Search}
use Rattle.acap_commands.specs.declared.said.SearchReply.{SearchReply}
use Rattle.acap_commands.specs.declared.target.Target.{Target}
use Rattle.acap_commands.specs.declared.target.Target.TheVariants as target
use Rattle.acap_commands.specs.declared.command.Verb.{Verb}
use Rattle.acap_commands.specs.declared.command.Verb.TheVariants as verb
use Rattle.acap_machine.specs.Client.{View, is_told_whole, made_over, makes_named, makes, begun_with, client_after_tolds, client_after, whole_after, tells, live_kept, live_in, live_at, IsHeld, fresh_for, HeldLaw, SeenLaw}
use Rattle.acap_machine.specs.Following.{IsCurrentMachine}
use Rattle.acap_machine.specs.Laws.{IsChange, OthersStay}
use Rattle.acap_machine.specs.Machine.{Machine, user_at}
use Rattle.acap_machine.specs.Searching.{number_told, rows_told, found_of, found_unless, refused_as, view_refused_as, seated_or, kept_if, found_or, searched_over, searched_in, searched_within, searched_from}
use Rattle.acap_machine.specs.Serving.{answer_to, written_or, names_or, updated_or}
use Rattle.acap_machine.specs.Stepping.{step_of, drained_at}
use Rattle.acap_machine.proofs.ClientSteps.{Sits, sits, own_contexts, put_contexts, put_fresh, changed_live, updated_front, updated_held, updated_shown, drained_held, drained_shown}
use Rattle.acap_machine.proofs.SeatLemmas.{opened_is, freed_is, unless_ok}
use Rattle.acap_machine.proofs.StepLaws.{by_keeps, change, seated_keeps}
use Rattle.acap_notices.specs.Holding.{Holding, holding}
use Rattle.acap_notices.specs.declared.told.Told.{Told}
use Rattle.acap_notices.specs.declared.told.Told.TheVariants as told_as
use Rattle.acap_search.specs.Asking.{asked_of}
use Rattle.acap_search.specs.Cutting.{cut_of}
use Rattle.acap_search.specs.declared.cutting.Cut.{Cut}
use Rattle.acap_search.specs.Fresh.{matches_of}
use Rattle.acap_search.specs.Laws.{SightLaw}
use Rattle.acap_search.specs.Matches.{Match}
use Rattle.acap_search.specs.declared.query.SearchSpec.{SearchSpec}
use Rattle.acap_search.specs.declared.refusal.SearchRefusal.{SearchRefusal}
use Rattle.acap_views.proofs.ClientLemmas.{client_law}
use Rattle.acap_views.specs.Contexts.{Context, Contexts, context_of, kept_of}
use Rattle.acap_views.specs.Current.{IsCurrentOccupant, rows}
use Rattle.acap_views.specs.Maps.{each_kept}
use Rattle.acap_views.specs.Opening.{with_context, freed_by}
use Rattle.acap_views.specs.Seats.{Occupant, Seated, contexts_at, with_contexts, with_user, without_user}
use Rattle.acap_views.specs.Ranging.{Ranged, range_at}
use Rattle.acap_views.specs.Telling.{told_of, fault_of, told_in_turn, after_updates, after_drain, drain_told}
use Rattle.acap_views.specs.declared.refusal.ViewRefusal.{ViewRefusal}

-- what is kept at the seat, and that a client who is told all has the list of that moment
record Follows (seat : ℕ) (name : List ℕ) (whole : Bool) (held : Option Holding) (e : Event) (words : Said) (n : Machine) : Type 0 where
  held_now : IsHeld (live_at n seat name) (whole_after name e words whole) (client_after name e words held)
  told : tells name e words ≡ true → (x : View) → live_at n seat name ≡ Some x → fresh_for n seat x.0 ≡ Some x.1.1

-- at each MODTIME within it the client that has read as far as that has that list
record AtModtimes (seat : ℕ) (name : List ℕ) (whole : Bool) (held : Option Holding) (words : Said) (n : Machine) : Type 0 where
  each_one : (front back : List Told) (moment : ℤ) → words ≡ said.Updated (front ++ told_as.Upto name moment ∷ back)
      → (x : View) → live_at n seat name ≡ Some x → whole ≡ true
      → (client_after_tolds name front held ≡ Some (holding x.1.0 (rows x.1.1))) × (fresh_for n seat x.0 ≡ Some x.1.1)

-- ---- a list that is told whole

abbrev either_cut : Bool → ℕ → ℕ → Cut
either_cut b most count = cond b (record { told = min count most; total = Some count }) (record { told = count; total = None })

cut_whole : (b : Bool) (most : ℕ) (matches : List Match) → is_none (option_map number_told (either_cut b most (length matches)).total) ≡ true
    → each (λ (found : Match). found.row) (take (either_cut b most (length matches)).told matches) ≡ rows matches
cut_whole true most matches e = absurd cc
cut_whole false most matches e = ap rows (take-length matches)

limit_whole : (limit : Option Limit) (matches : List Match) → is_none (option_map number_told (cut_of limit (length matches)).total) ≡ true
    → each (λ (found : Match). found.row) (take (cut_of limit (length matches)).told matches) ≡ rows matches
limit_whole None matches e = ap rows (take-length matches)
limit_whole (Some limit) matches e = cut_whole (nat_lt limit.over (length matches)) limit.most matches e

whole_rows : (returns : Option (List ReturnItem)) (limit : Option Limit) (matches : List Match) → (is_some returns && is_none (option_map number_told (cut_of limit (length matches)).total)) ≡ true
    → rows_told returns matches (cut_of limit (length matches)).told ≡ rows matches
whole_rows None limit matches e = absurd cc
whole_rows (Some returns) limit matches e = limit_whole limit matches e

begins_with : (search : Search) (found : SearchReply) (make : MakeContext) (b : Bool) → is_told_whole search found ≡ b → b ≡ true → begun_with search found (Some make) ≡ Some (holding make.enumerate found.rows)
begins_with search found make true e t = ap (λ b. cond b (Some (holding make.enumerate found.rows)) None) e
begins_with search found make false e t = absurd cc

made_live : (make : MakeContext) (sought : SearchSpec) (matches : List Match) (last : ℤ) (notify : Bool) (x : View) → live_kept (context_of make sought matches last) (kept_of notify matches) ≡ Some x
    → (sought, (make.enumerate, matches)) ≡ x
made_live make sought matches last true x e = cc
made_live make sought matches last false x e = absurd cc

-- ---- what is kept under a name that is put in or taken out

put_held : (b : Bool) (live : Option View) (context : Context) (old : Option Context) (now whole : Bool) (begun held : Option Holding) → live ≡ option_and_then live_in (cond b (Some context) old)
    → IsHeld (live_in context) now begun → IsHeld (option_and_then live_in old) whole held → IsHeld live (cond b now whole) (cond b begun held)
put_held true live context old now whole begun held e new before x l w = new x (sym e ∙ l) w
put_held false live context old now whole begun held e new before x l w = before x (sym e ∙ l) w

out_held : (b : Bool) (live : Option View) (old : Option Context) (whole : Bool) (held : Option Holding) → live ≡ option_and_then live_in (cond b None old)
    → IsHeld (option_and_then live_in old) whole held → IsHeld live whole held
out_held true live old whole held e before x l w = absurd (let none : None ≡ Some x = sym e ∙ l in cc)
out_held false live old whole held e before x l w = before x (sym e ∙ l) w

-- ---- the commands

module _ (m : Machine) (seat : ℕ) (user : List ℕ) (at : user_at m seat ≡ Some user) (current : IsCurrentMachine m) (name : List ℕ) (whole : Bool) (held : Option Holding) (h : IsHeld (live_at m seat name) whole held) where
  abbrev Does : Event → Said × Machine → Type 0
  Does e answer = Follows seat name whole held e answer.0 answer.1

  abbrev own : Sits m seat
  own = sits m seat user at

  quiet : (e : Event) (refusal : Refusal) → Follows seat name whole held e (said.Refused refusal) m
  quiet e refusal = record { held_now = h; told = λ t. absurd cc }

  writes : (e : Event) (done : Verb) (r : Result Change Refusal) → Does e (written_or m done r)
  writes e done (Ok change) = record { held_now = λ x l w. h x (changed_live m change seat name x l) w; told = λ t. absurd cc }
  writes e done (Err refusal) = quiet e refusal

  -- a SEARCH that makes no such context
  unmade : (search : Search) (found : SearchReply) → makes name search ≡ false → Follows seat name whole held (event.Command (command.Search search)) (said.Searched found) m
  unmade search found none = record {
    held_now = subst (λ b. IsHeld (live_at m seat name) (cond b (is_told_whole search found) whole) (cond b (begun_with search found search.modifiers.make_context) held)) (sym none) h;
    told = λ t. absurd cc;
  }

  found_in : (search : Search) (dataset : List ℕ) (why : Option SearchRefusal) (found : SearchReply) → makes name search ≡ false
      → Follows seat name whole held (event.Command (command.Search search)) (found_unless dataset why found) m
  found_in search dataset None found none = unmade search found none
  found_in search dataset (Some refusal) found none = quiet _ (refused_as dataset refusal)

  within : (search : Search) (from : Result Ranged ViewRefusal) → makes name search ≡ false
      → Follows seat name whole held (event.Command (command.Search search)) (searched_within m.store m.realm user from search.modifiers search.key) m
  unfolding searched_from
  within search (Ok from) none = found_in search _ _ _ none
  within search (Err why) none = quiet _ (view_refused_as why)

  -- one that makes a context
  made : (search : Search) (make : MakeContext) (sought : SearchSpec) (matches : List Match) (seats : Seated) → makes name search ≡ octets_eq name make.name → search.modifiers.make_context ≡ Some make
      → sought.returns ≡ search.modifiers.returns
      → with_context m.seats seat make sought matches m.store.last ≡ Ok seats
      → Follows seat name whole held (event.Command (command.Search search)) (said.Searched (found_of m.store.last sought search.modifiers.limit matches)) (record m { seats = seats })
  made search make sought matches seats named is returns e =
      let found = found_of m.store.last sought search.modifiers.limit matches in
      let context = context_of make sought matches m.store.last in
      let live : live_at (record m { seats = seats }) seat name ≡ option_and_then live_in (cond (octets_eq name make.name) (Some context) (table.get (contexts_at m.seats seat) name)) =
      ap (λ (s : Seated). option_and_then live_in (table.get (contexts_at s seat) name)) (sym (opened_is m.seats seats seat make sought matches m.store.last e))
      ∙ (ap (λ (cs : Contexts). option_and_then live_in (table.get cs name)) (put_contexts m seat own (table.insert (contexts_at m.seats seat) make.name context))
      ∙ (ap (option_and_then live_in) (get-insert nat_list_cmp_total (contexts_at m.seats seat) make.name context name)
      ∙ ap (λ b. option_and_then live_in (cond b (Some context) (table.get (contexts_at m.seats seat) name))) (sym (texts_ties name make.name)))) in
      let begun : IsHeld (live_in context) (is_told_whole search found) (begun_with search found search.modifiers.make_context) =
      λ x l w.
      let x_is = made_live make sought matches m.store.last make.notify x l in
      let told : (is_some sought.returns && is_none found.total) ≡ true = ap (λ r. is_some r && is_none found.total) returns ∙ w in
      ap (begun_with search found) is
      ∙ (begins_with search found make (is_told_whole search found) refl w
      ∙ (ap (λ rs. Some (holding make.enumerate rs)) (whole_rows sought.returns search.modifiers.limit matches told)
      ∙ ap (λ (y : View). Some (holding y.1.0 (rows y.1.1))) x_is)) in
      record {
        held_now = subst (λ b. IsHeld (live_at (record m { seats = seats }) seat name) (cond b (is_told_whole search found) whole) (cond b (begun_with search found search.modifiers.make_context) held)) (sym named)
            (put_held (octets_eq name make.name) _ context (table.get (contexts_at m.seats seat) name) _ whole _ held live begun h);
        told = λ t. absurd cc;
      }

  opens : (search : Search) (make : MakeContext) (sought : SearchSpec) (matches : List Match) (r : Result Seated ViewRefusal) → makes name search ≡ octets_eq name make.name → search.modifiers.make_context ≡ Some make
      → sought.returns ≡ search.modifiers.returns
      → with_context m.seats seat make sought matches m.store.last ≡ r
      → Does (event.Command (command.Search search)) (seated_or m (said.Searched (found_of m.store.last sought search.modifiers.limit matches)) r)
  opens search make sought matches (Ok seats) named is returns e = made search make sought matches seats named is returns e
  opens search make sought matches (Err why) named is returns e = quiet _ (view_refused_as why)

  keeps : (search : Search) (dataset : List ℕ) (sought : SearchSpec) (matches : List Match) (make : Option MakeContext) → search.target ≡ target.Dataset dataset → search.modifiers.make_context ≡ make
      → sought.returns ≡ search.modifiers.returns
      → Does (event.Command (command.Search search)) (kept_if m seat make sought search.modifiers.limit matches)
  keeps search dataset sought matches None aims is returns = unmade search _ (λ i. makes_named name (made_over (aims i) (is i)))
  keeps search dataset sought matches (Some make) aims is returns =
      opens search make sought matches (with_context m.seats seat make sought matches m.store.last) (λ i. makes_named name (made_over (aims i) (is i))) is returns refl

  over : (search : Search) (dataset : List ℕ) (why : Option SearchRefusal) → search.target ≡ target.Dataset dataset
      → Does (event.Command (command.Search search)) (found_or m seat (asked_of user dataset search.modifiers search.key) why (matches_of m.store.records m.realm user (asked_of user dataset search.modifiers search.key).query.sought))
  over search dataset (Some refusal) aims = quiet _ _
  over search dataset None aims = keeps search dataset _ _ search.modifiers.make_context aims refl refl

  searches : (search : Search) (t : Target) → search.target ≡ t → Does (event.Command (command.Search search)) (searched_in m seat user t search.modifiers search.key)
  unfolding searched_over
  searches search (target.Dataset dataset) aims = over search dataset _ aims
  searches search (target.Context of) aims = within search (range_at m.seats seat of) (ap (λ t. makes_named name (made_over t search.modifiers.make_context)) aims)

  frees : (e : Event) (of : List ℕ) (r : Result Seated ViewRefusal) → freed_by m.seats seat of ≡ r → Does e (seated_or m (said.Done verb.FreeContext) r)
  frees e of (Ok seats) f =
      let live : live_at (record m { seats = seats }) seat name ≡ option_and_then live_in (cond (octets_eq name of) None (table.get (contexts_at m.seats seat) name)) =
      ap (λ (s : Seated). option_and_then live_in (table.get (contexts_at s seat) name)) (sym (freed_is m.seats seats seat of f))
      ∙ (ap (λ (cs : Contexts). option_and_then live_in (table.get cs name)) (put_contexts m seat own (table.remove (contexts_at m.seats seat) of))
      ∙ (ap (option_and_then live_in) (get-remove nat_list_cmp_total (contexts_at m.seats seat) of name)
      ∙ ap (λ b. option_and_then live_in (cond b None (table.get (contexts_at m.seats seat) name))) (sym (texts_ties name of)))) in
      record { held_now = out_held (octets_eq name of) _ (table.get (contexts_at m.seats seat) name) whole held live h; told = λ t. absurd cc }
  frees e of (Err why) f = quiet e (view_refused_as why)

  -- ---- what is told of contexts

  abbrev occupied : IsCurrentOccupant m.store m.realm own.occupant
  occupied = current.sound.current.all seat own.occupant own.at

  at_first : IsHeld (option_and_then live_in (table.get own.occupant.contexts name)) whole held
  at_first = subst (λ (cs : Contexts). IsHeld (option_and_then live_in (table.get cs name)) whole held) (own_contexts m seat own) h

  tells_of : (names : List (List ℕ)) (told : List Told × Seated) → told_of m.seats seat names m.store.last ≡ Ok told
      → Follows seat name whole held (event.Command (command.UpdateContext names)) (said.Updated told.0) (record m { seats = told.1 })
  tells_of names told e =
      let made : List Told × Seated = (told_in_turn (contexts_at m.seats seat) names m.store.last, with_contexts m.seats seat (after_updates (contexts_at m.seats seat) names m.store.last)) in
      let is : made ≡ told = unless_ok (fault_of (contexts_at m.seats seat) names) made told e in
      let contexts = own_contexts m seat own in
      let live : live_at (record m { seats = with_contexts m.seats seat (after_updates (contexts_at m.seats seat) names m.store.last) }) seat name
      ≡ option_and_then live_in (table.get (after_updates own.occupant.contexts names m.store.last) name) =
      ap (λ (cs : Contexts). option_and_then live_in (table.get cs name)) (put_contexts m seat own (after_updates (contexts_at m.seats seat) names m.store.last)
      ∙ ap (λ (cs : Contexts). after_updates cs names m.store.last) contexts) in
      subst (λ (p : List Told × Seated). Follows seat name whole held (event.Command (command.UpdateContext names)) (said.Updated p.0) (record m { seats = p.1 })) is
      (record {
        held_now = λ x l w.
            ap (λ (cs : Contexts). client_after_tolds name (told_in_turn cs names m.store.last) held) contexts
            ∙ updated_held m.store m.realm own.occupant occupied name names m.store.last whole held at_first x (sym live ∙ l) w;
        told = λ t x l.
            put_fresh m seat own (after_updates (contexts_at m.seats seat) names m.store.last) x.0
            ∙ ap Some (sym (updated_shown m.store m.realm own.occupant occupied name names m.store.last x t (sym live ∙ l)));
      })

  tells_at : (names : List (List ℕ)) (told : List Told × Seated) → told_of m.seats seat names m.store.last ≡ Ok told
      → AtModtimes seat name whole held (said.Updated told.0) (record m { seats = told.1 })
  tells_at names told e =
      let made : List Told × Seated = (told_in_turn (contexts_at m.seats seat) names m.store.last, with_contexts m.seats seat (after_updates (contexts_at m.seats seat) names m.store.last)) in
      let is : made ≡ told = unless_ok (fault_of (contexts_at m.seats seat) names) made told e in
      let contexts = own_contexts m seat own in
      let live : live_at (record m { seats = with_contexts m.seats seat (after_updates (contexts_at m.seats seat) names m.store.last) }) seat name
      ≡ option_and_then live_in (table.get (after_updates own.occupant.contexts names m.store.last) name) =
      ap (λ (cs : Contexts). option_and_then live_in (table.get cs name)) (put_contexts m seat own (after_updates (contexts_at m.seats seat) names m.store.last)
      ∙ ap (λ (cs : Contexts). after_updates cs names m.store.last) contexts) in
      subst (λ (p : List Told × Seated). AtModtimes seat name whole held (said.Updated p.0) (record m { seats = p.1 })) is
      (record {
        each_one = λ front back moment words x l w.
            let all : told_in_turn (contexts_at m.seats seat) names m.store.last ≡ front ++ told_as.Upto name moment ∷ back = cc in
            let here : told_in_turn own.occupant.contexts names m.store.last ≡ front ++ told_as.Upto name moment ∷ back = sym (ap (λ (cs : Contexts). told_in_turn cs names m.store.last) contexts) ∙ all in
            let among = client_law.named own.occupant.contexts names name m.store.last front back moment here in (
              updated_front m.store m.realm own.occupant occupied name names m.store.last whole held at_first front back moment here x (sym live ∙ l) w,
              put_fresh m seat own (after_updates (contexts_at m.seats seat) names m.store.last) x.0
                  ∙ ap Some (sym (updated_shown m.store m.realm own.occupant occupied name names m.store.last x among (sym live ∙ l))),
            );
      })

  told_at : (names : List (List ℕ)) (r : Result (List Told × Seated) ViewRefusal) → told_of m.seats seat names m.store.last ≡ r
      → AtModtimes seat name whole held (updated_or m r).0 (updated_or m r).1
  told_at names (Ok told) e = tells_at names told e
  told_at names (Err why) e = record { each_one = λ front back moment words. absurd cc }

  updates_at : (names : List (List ℕ)) (clock : ℤ) → let answer = answer_to m seat user (command.UpdateContext names) clock in AtModtimes seat name whole held answer.0 answer.1
  unfolding answer_to
  updates_at names clock = told_at names (told_of m.seats seat names m.store.last) refl

  updates : (names : List (List ℕ)) (r : Result (List Told × Seated) ViewRefusal) → told_of m.seats seat names m.store.last ≡ r → Does (event.Command (command.UpdateContext names)) (updated_or m r)
  updates names (Ok told) e = tells_of names told e
  updates names (Err why) e = quiet _ (view_refused_as why)

  drains : (e : Event) → Follows seat name whole held e (drained_at m seat).0.said (drained_at m seat).1
  drains e =
      let contexts = own_contexts m seat own in
      let live : live_at (drained_at m seat).1 seat name ≡ option_and_then live_in (table.get (each_kept after_drain own.occupant.contexts) name) =
      ap (λ (cs : Contexts). option_and_then live_in (table.get cs name)) (put_contexts m seat own (each_kept after_drain (contexts_at m.seats seat))
      ∙ ap (λ (cs : Contexts). each_kept after_drain cs) contexts) in
      record {
        held_now = λ x l w.
            ap (λ (cs : Contexts). client_after_tolds name (flat_map (λ c. drain_told c.0 c.1.kept) (table.entries cs)) held) contexts
            ∙ drained_held m.store m.realm own.occupant occupied name whole held at_first x (sym live ∙ l) w;
        told = λ t x l.
            put_fresh m seat own (each_kept after_drain (contexts_at m.seats seat)) x.0
            ∙ ap Some (sym (drained_shown m.store m.realm own.occupant occupied name x (sym live ∙ l)));
      }

  -- ---- every command

  silent : (c : Command) (words : Said) → client_after name (event.Command c) words held ≡ held → whole_after name (event.Command c) words whole ≡ whole → tells name (event.Command c) words ≡ false
      → Follows seat name whole held (event.Command c) words m
  silent c words same still none = record {
    held_now = λ x l w. same ∙ h x l (sym still ∙ w);
    told = λ t. absurd (let f : false ≡ true = sym none ∙ t in cc);
  }

  named : (c : Command) (r : Result (List (List ℕ)) Refusal) → Follows seat name whole held (event.Command c) (names_or r) m
  named c (Ok names) = silent c (said.Deleted names) refl refl refl
  named c (Err refusal) = quiet _ refusal

  answers : (c : Command) (clock : ℤ) → Does (event.Command c) (answer_to m seat user c clock)
  unfolding answer_to
  answers command.Noop clock = silent command.Noop (said.Done verb.Noop) refl refl refl
  answers command.Logout clock = silent command.Logout said.GoodBye refl refl refl
  answers (command.Authenticate mechanism) clock = quiet _ _
  answers (command.Store entries) clock = writes _ verb.Store _
  answers (command.Search search) clock = searches search search.target refl
  answers (command.SetAcl object identifier letters) clock = writes _ verb.SetAcl _
  answers (command.DeleteAcl object identifier) clock = writes _ verb.DeleteAcl _
  answers (command.MyRights object) clock = silent (command.MyRights object) (said.Rights _) refl refl refl
  answers (command.ListRights object identifier) clock = silent (command.ListRights object identifier) (said.RightsList _) refl refl refl
  answers (command.DeletedSince dataset since) clock = named (command.DeletedSince dataset since) _
  answers (command.FreeContext of) clock = frees _ of (freed_by m.seats seat of) refl
  answers (command.UpdateContext names) clock = updates names (told_of m.seats seat names m.store.last) refl

-- ---- every event of a seat

nothing_at : (m : Machine) (seat : ℕ) (name : List ℕ) (whole : Bool) (held : Option Holding) → contexts_at m.seats seat ≡ table.empty → IsHeld (live_at m seat name) whole held
nothing_at m seat name whole held e x l w =
    absurd (let none : None ≡ Some x = sym (ap (λ (cs : Contexts). option_and_then live_in (table.get cs name)) e ∙ ap (option_and_then live_in) (get-empty octets_cmp name)) ∙ l in cc)

entered_empty : (seats : Seated) (seat : ℕ) (user : List ℕ) → contexts_at (with_user seats seat user) seat ≡ table.empty
entered_empty seats seat user =
    let occupant : Occupant = record { user = user; contexts = table.empty } in
    ap (λ o. option_map_or (λ (p : Occupant). p.contexts) o table.empty)
    (get-insert nat_cmp_total seats seat occupant seat ∙ ap (λ b. cond b (Some occupant) (table.get seats seat)) (unsigned_tied seat seat ∙ eq-eqb seat seat refl))

left_empty : (seats : Seated) (seat : ℕ) → contexts_at (without_user seats seat) seat ≡ table.empty
left_empty seats seat =
    ap (λ o. option_map_or (λ (p : Occupant). p.contexts) o table.empty)
    (get-remove nat_cmp_total seats seat seat ∙ ap (λ b. cond b None (table.get seats seat)) (unsigned_tied seat seat ∙ eq-eqb seat seat refl))

by_step : (m : Machine) (seat : ℕ) (e : Event) (clock : ℤ) (reply : Reply) (new : Machine) (name : List ℕ) (whole : Bool) (held : Option Holding) → step_of m seat e clock ≡ Ok (reply, new) → IsCurrentMachine m
    → IsHeld (live_at m seat name) whole held → Follows seat name whole held e reply.said new
by_step m seat (event.Enter user) clock reply new name whole held f is h =
    seated_keeps (λ r n. Follows seat name whole held (event.Enter user) r.said n) m seat user (user_at m seat) reply new
    (record { held_now = nothing_at (record m { seats = with_user m.seats seat user }) seat name whole held (entered_empty m.seats seat user); told = λ t. absurd cc }) f
by_step m seat (event.Command c) clock reply new name whole held f is h =
    by_keeps (λ r n. Follows seat name whole held (event.Command c) r.said n) (user_at m seat) _ reply new (λ user at. answers m seat user at is name whole held h c clock) f
by_step m seat event.Drain clock reply new name whole held f is h =
    by_keeps (λ r n. Follows seat name whole held event.Drain r.said n) (user_at m seat) _ reply new (λ user at. drains m seat user at is name whole held h event.Drain) f
by_step m seat event.Leave clock reply new name whole held f is h =
    by_keeps (λ r n. Follows seat name whole held event.Leave r.said n) (user_at m seat) _ reply new
    (λ user at. record { held_now = nothing_at (record m { seats = without_user m.seats seat }) seat name whole held (left_empty m.seats seat); told = λ t. absurd cc }) f

left_none : (m : Machine) (seat : ℕ) (clock : ℤ) (reply : Reply) (new : Machine) (name : List ℕ) → step_of m seat event.Leave clock ≡ Ok (reply, new) → live_at new seat name ≡ None
left_none m seat clock reply new name f =
    by_keeps (λ r n. live_at n seat name ≡ None) (user_at m seat) _ reply new
    (λ user at. ap (λ (cs : Contexts). option_and_then live_in (table.get cs name)) (left_empty m.seats seat) ∙ ap (option_and_then live_in) (get-empty octets_cmp name)) f

-- ---- and of every other seat

elsewhere : (m new : Machine) (seat : ℕ) (e : Event) (clock : ℤ) (other : ℕ) (name : List ℕ) (x : View) → IsChange m seat e clock new ⊎ OthersStay m seat new → (other == seat) ≡ false
    → live_at new other name ≡ Some x → live_at m other name ≡ Some x
elsewhere m new seat e clock other name x (inl c) apart l = changed_live m c.change other name x (ap (λ (n : Machine). live_at n other name) (sym c.made) ∙ l)
elsewhere m new seat e clock other name x (inr stay) apart l =
    sym (ap (λ o. option_and_then live_in (table.get (option_map_or (λ (p : Occupant). p.contexts) o table.empty) name)) (stay.seats other apart)) ∙ l

pub held_law : HeldLaw
held_law = record {
  own = λ m seat e clock reply new name whole held f is h. (by_step m seat e clock reply new name whole held f is h).held_now;
  others = λ m seat e clock reply new other name whole held f apart h x l w. h x (elsewhere m new seat e clock other name x (change m seat e clock reply new f) apart l) w;
  told = λ m seat e clock reply new name x f is t l.
      (by_step m seat e clock reply new name false None f is (λ y k w. absurd cc)).told t x l;
  modtimes = λ m seat names clock reply new name whole held front back moment f is h words x l w.
      (by_keeps (λ r n. AtModtimes seat name whole held r.said n) (user_at m seat) _ reply new
      (λ user at. updates_at m seat user at is name whole held h names clock) f).each_one front back moment words x l w;
  left = left_none;
}

-- ---- what is told comes of what the user sees

some_is : (a b : List Match) → Some a ≡ Some b → a ≡ b
some_is a b e = cc

pub seen_law : SightLaw → SeenLaw
seen_law law m n seat other x y fresh other_fresh sought positions alike =
    let found_here : x.1.1 ≡ matches_of m.store.records m.realm alike.one.user x.0 =
    some_is _ _ (sym fresh ∙ ap (option_map (λ (o : Occupant). matches_of m.store.records m.realm o.user x.0)) alike.sits) in
    let found_there : y.1.1 ≡ matches_of n.store.records n.realm alike.two.user y.0 =
    some_is _ _ (sym other_fresh ∙ ap (option_map (λ (o : Occupant). matches_of n.store.records n.realm o.user y.0)) alike.other_sits) in
    let lists = found_here ∙ (law.fresh m.store.records n.store.records m.realm n.realm alike.one.user alike.two.user x.0 alike.same
    ∙ (ap (matches_of n.store.records n.realm alike.two.user) sought ∙ sym found_there)) in
    (λ i. Some (holding (positions i) (rows (lists i))))
