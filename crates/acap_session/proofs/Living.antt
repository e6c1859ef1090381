-- The client of a context over the steps of a world.
use Rattle.std.proofs.Common.{◌≡◌, ℕ, ◌==◌, ℤ, Bool, true, false, cond, ◌&&◌, ◌||◌, List, [], ◌∷◌, ◌++◌, Option, Some, None, Result, Ok, Err, refl, sym, ap, subst, ◌∙◌, option_map, if◌then◌else◌}
use Rattle.std.specs.Prelude.{is_ok}
use Rattle.std.specs.List.{list_all}
use Rattle.std.specs.Option.{option_and_then}
use Rattle.std.proofs.lemmas.Bool.{and_parts, eqb-true, eqb-false}
use Rattle.acap_commands.specs.declared.command.Command.{Command}
use Rattle.acap_commands.specs.declared.command.Command.TheVariants as command
use Rattle.acap_commands.specs.declared.event.Event.{Event}
use Rattle.acap_commands.specs.declared.event.Event.TheVariants as event
use Rattle.acap_commands.specs.declared.event.Fault.{Fault}
use Rattle.acap_commands.specs.declared.reply.Reply.{Reply}
use Rattle.acap_commands.specs.declared.said.Said.{Said}
use Rattle.acap_commands.specs.declared.said.Said.TheVariants as said
use Rattle.acap_dialogue.specs.Saying.{heard_of}
use Rattle.acap_dialogue.specs.Session.{after_answer, has_seat, session_next, session_drain}
use Rattle.acap_dialogue.specs.Talking.{Talking, beginning}
use Rattle.acap_dialogue.specs.declared.next.Heard.{Heard}
use Rattle.acap_dialogue.specs.declared.next.Heard.TheVariants as heard
use Rattle.acap_dialogue.specs.declared.next.Next.{Next}
use Rattle.acap_dialogue.specs.declared.next.Next.TheVariants as next
use Rattle.acap_grammar.specs.Grammar.{command_of}
use Rattle.acap_lexer.specs.Token.{Token}
use Rattle.acap_login.specs.Login.{User, are_named}
use Rattle.acap_machine.specs.Client.{Client, View, IsFresh, client_after_tolds, live_at, with_rows, IsHeld, HeldLaw, SeenLaw}
use Rattle.acap_machine.specs.Following.{is_named, IsCurrentMachine, CurrentLaw}
use Rattle.acap_machine.specs.Machine.{Machine}
use Rattle.acap_machine.specs.Runs.{outcome_of, machine_after}
use Rattle.acap_machine.specs.Stepping.{step_of}
use Rattle.acap_notices.specs.Holding.{holding, holding_after_all}
use Rattle.acap_notices.specs.declared.notice.Notice.{Notice}
use Rattle.acap_notices.specs.declared.told.Told.{Told}
use Rattle.acap_notices.specs.declared.told.Told.TheVariants as told_as
use Rattle.acap_search.specs.Matches.{Match}
use Rattle.acap_views.specs.Contexts.{Kept, Live}
use Rattle.acap_views.specs.Current.{IsCurrentKept, rows}
use Rattle.acap_session.specs.Laws.{asked_by}
use Rattle.acap_dialogue.specs.Running.{event_in}
use Rattle.acap_session.specs.Live.{asked_in, told_with, told_in, client_told, whole_told, told_all, tells_in, client_in, whole_in, is_named_action, AreNamed, LiveLawFor, LiveLawOf, MayLogIn, Telling, IsReading, IsTelling, start, all_steps, after, client, client_amid, LiveLaw}
use Rattle.acap_session.specs.Places.{SeatSession, place_at}
use Rattle.acap_session.specs.Turning.{Scene, scene, event_outcome, left_at, left_by, turn_by, turn_of, drain_of}
use Rattle.acap_session.specs.World as world
use Rattle.acap_session.specs.World.{World, Action, Step, did, new_world, open_at, world_after, said_before, scene_of}
use Rattle.acap_session.specs.declared.occasion.Occasion.{Occasion}
use Rattle.acap_rights.specs.declared.realm.Realm.{Realm}
use Rattle.acap_session.proofs.Alone.{alone, did_by}
use Rattle.acap_session.proofs.Naming.{NamedWorld, new_named, step_named, asked_named}
use Rattle.acap_session.proofs.PipeSteps.{run_append}

-- ---- what a step makes of the machine: the event that the session asks is performed, and the session may leave its seat

abbrev pub machine_by : Option Event → Occasion → Bool → Machine → Machine
machine_by None o refused m = m
machine_by (Some e) o refused m = machine_after m (event_outcome refused m o e)

pub record MovedTo (o : Occasion) (m n : Machine) : Type 0 where
  pub left : Bool
  pub is : n ≡ left_by left o m

pub closing : (h : Heard) (seated : Bool) (o : Occasion) (m : Machine) → MovedTo o m (left_at h seated o m)
closing heard.Closes seated o m = record { left = seated; is = refl }
closing h seated o m = record { left = false; is = refl }

pub turned_to : (o : Occasion) (refused : Bool) (s : Scene) (x : Next × Talking) → MovedTo o (machine_by (event_in x) o refused s.machine) (turn_by o refused s x).1.machine
turned_to o refused s (next.More, t) = record { left = false; is = refl }
turned_to o refused s (next.Say octets, t) = record { left = false; is = refl }
turned_to o refused s (next.Ask event, t) =
    let r = event_outcome refused s.machine o event in
    closing (heard_of (after_answer t (outcome_of r)).0) (has_seat t || is_ok r) o (machine_after s.machine r)
turned_to o refused s (next.Close octets, t) = record { left = has_seat s.talk; is = refl }

abbrev pub asked_on : World → Occasion → Action → Option SeatSession → Option Event
asked_on w o action now = asked_by w (record { occasion = o; refused = false; action = action }) now

pub moved_by : (o : Occasion) (refused : Bool) (action : Action) (w : World) (now : Option SeatSession) → MovedTo o (machine_by (asked_on w o action now) o refused w.machine) (did_by o refused action w now).machine
unfolding turn_of drain_of
moved_by o refused (world.Open user) w None = turned_to o refused (scene w.machine (beginning w.host user) (said_before (place_at w.places o.seat))) (session_next w.users o.nonce o.clock (beginning w.host user))
moved_by o refused (world.Piece octets) w None = record { left = false; is = refl }
moved_by o refused world.Turn w (Some p) = turned_to o refused (scene_of w p) (session_next w.users o.nonce o.clock p.talk)
moved_by o refused world.Drain w (Some p) = turned_to o refused (scene_of w p) (session_drain p.talk)
moved_by o refused world.Leave w (Some p) = record { left = has_seat p.talk; is = refl }
moved_by o refused action w now = record { left = false; is = refl }

pub moved_in : (o : Occasion) (refused : Bool) (action : Action) (w : World) → MovedTo o (machine_by (asked_on w o action (open_at w o.seat)) o refused w.machine) (did o refused action w).machine
unfolding did
moved_in o refused (world.Open user) w = moved_by o refused (world.Open user) w (open_at w o.seat)
moved_in o refused (world.Piece octets) w = moved_by o refused (world.Piece octets) w (open_at w o.seat)
moved_in o refused world.Turn w = moved_by o refused world.Turn w (open_at w o.seat)
moved_in o refused world.Drain w = moved_by o refused world.Drain w (open_at w o.seat)
moved_in o refused world.Leave w = moved_by o refused world.Leave w (open_at w o.seat)

apart : (seat other : ℕ) → (other == seat) ≡ false → (seat == other) ≡ false
apart seat other e =
    elim (seat == other) as (λ b. (seat == other) ≡ b → b ≡ false) [
      | true ↦ λ t. absurd (eqb-false other seat e (sym (eqb-true seat other t)))
      | false ↦ λ t. refl
    ] refl

-- what was asked, and what was answered, where something was
abbrev event_told : Event → Option (Event × Said) → Event
event_told other None = other
event_told other (Some told) = told.0

abbrev words_told : Said → Option (Event × Said) → Said
words_told other None = other
words_told other (Some told) = told.1

-- ---- the machine stays current, and the client of each context holds what it was told

module _ (current : CurrentLaw) (law : HeldLaw) where
  after_current : (m : Machine) (seat : ℕ) (e : Event) (clock : ℤ) (r : Result (Reply × Machine) Fault) → step_of m seat e clock ≡ r → is_named e ≡ true → IsCurrentMachine m → IsCurrentMachine (machine_after m r)
  after_current m seat e clock (Ok stepped) f named is = current.stays m seat e clock stepped.0 stepped.1 f named is
  after_current m seat e clock (Err fault) f named is = is

  by_current : (m : Machine) (o : Occasion) (refused : Bool) (asked : Option Event) → ((e : Event) → asked ≡ Some e → is_named e ≡ true) → IsCurrentMachine m → IsCurrentMachine (machine_by asked o refused m)
  by_current m o refused None named is = is
  by_current m o true (Some e) named is = is
  by_current m o false (Some e) named is = after_current m o.seat e o.clock (step_of m o.seat e o.clock) refl (named e refl) is

  left_current : (m : Machine) (o : Occasion) (left : Bool) → IsCurrentMachine m → IsCurrentMachine (left_by left o m)
  left_current m o true is = after_current m o.seat event.Leave o.clock (step_of m o.seat event.Leave o.clock) refl refl is
  left_current m o false is = is

  module _ (seat : ℕ) (name : List ℕ) where
    -- one event
    after_held : (m : Machine) (other : ℕ) (e : Event) (clock : ℤ) (r : Result (Reply × Machine) Fault) (whole : Bool) (held : Client) → step_of m other e clock ≡ r → IsCurrentMachine m
        → (b : Bool) → (other == seat) ≡ b → IsHeld (live_at m seat name) whole held
        → IsHeld (live_at (machine_after m r) seat name) (cond b (whole_told name (told_with e (outcome_of r)) whole) whole) (cond b (client_told name (told_with e (outcome_of r)) held) held)
    after_held m other e clock (Ok stepped) whole held f is true own h =
        let at = eqb-true other seat own in
        law.own m seat e clock stepped.0 stepped.1 name whole held (ap (λ k. step_of m k e clock) (sym at) ∙ f) is h
    after_held m other e clock (Ok stepped) whole held f is false own h =
        law.others m other e clock stepped.0 stepped.1 seat name whole held f (apart seat other own) h
    after_held m other e clock (Err fault) whole held f is true own h = h
    after_held m other e clock (Err fault) whole held f is false own h = h

    by_held : (m : Machine) (o : Occasion) (refused : Bool) (asked : Option Event) (whole : Bool) (held : Client) → IsCurrentMachine m → (b : Bool) → (o.seat == seat) ≡ b
        → IsHeld (live_at m seat name) whole held
        → let told = option_and_then (λ e. option_and_then (told_with e) (option_map (λ e. outcome_of (event_outcome refused m o e)) asked)) asked in
        IsHeld (live_at (machine_by asked o refused m) seat name) (cond b (whole_told name told whole) whole) (cond b (client_told name told held) held)
    by_held m o refused None whole held is true own h = h
    by_held m o refused None whole held is false own h = h
    by_held m o true (Some e) whole held is true own h = h
    by_held m o true (Some e) whole held is false own h = h
    by_held m o false (Some e) whole held is b own h = after_held m o.seat e o.clock (step_of m o.seat e o.clock) whole held refl is b own h

    -- and where the session leaves behind it
    gone : (m : Machine) (other : ℕ) (clock : ℤ) (r : Result (Reply × Machine) Fault) (whole : Bool) (held : Client) → step_of m other event.Leave clock ≡ r
        → (b : Bool) → (other == seat) ≡ b → IsHeld (live_at m seat name) whole held → IsHeld (live_at (machine_after m r) seat name) whole held
    gone m other clock (Ok stepped) whole held f true own h =
        let at = eqb-true other seat own in
        let none = law.left m seat clock stepped.0 stepped.1 name (ap (λ k. step_of m k event.Leave clock) (sym at) ∙ f) in
        λ x l w. absurd (let n : None ≡ Some x = sym none ∙ l in cc)
    gone m other clock (Ok stepped) whole held f false own h = law.others m other event.Leave clock stepped.0 stepped.1 seat name whole held f (apart seat other own) h
    gone m other clock (Err fault) whole held f b own h = h

    left_held : (m : Machine) (o : Occasion) (left : Bool) (whole : Bool) (held : Client) → IsHeld (live_at m seat name) whole held → IsHeld (live_at (left_by left o m) seat name) whole held
    left_held m o true whole held h = gone m o.seat o.clock (step_of m o.seat event.Leave o.clock) whole held refl (o.seat == seat) refl h
    left_held m o false whole held h = h

    -- a client that is told all
    after_told : (m : Machine) (e : Event) (clock : ℤ) (r : Result (Reply × Machine) Fault) (x : View) → step_of m seat e clock ≡ r → IsCurrentMachine m → told_all name (told_with e (outcome_of r)) ≡ true
        → live_at (machine_after m r) seat name ≡ Some x → IsFresh (machine_after m r) seat x
    after_told m e clock (Ok stepped) x f is t l = law.told m seat e clock stepped.0 stepped.1 name x f is t l
    after_told m e clock (Err fault) x f is t l = absurd cc

    by_told : (m : Machine) (o : Occasion) (refused : Bool) (asked : Option Event) (x : View) → o.seat ≡ seat → IsCurrentMachine m
        → told_all name (option_and_then (λ e. option_and_then (told_with e) (option_map (λ e. outcome_of (event_outcome refused m o e)) asked)) asked) ≡ true
        → live_at (machine_by asked o refused m) seat name ≡ Some x → IsFresh (machine_by asked o refused m) seat x
    by_told m o refused None x at is t l = absurd cc
    by_told m o true (Some e) x at is t l = absurd cc
    by_told m o false (Some e) x at is t l =
        let stepped = ap (λ k. step_of m k e o.clock) at in
        after_told m e o.clock (step_of m o.seat e o.clock) x (sym stepped) is t l

    -- what is so where the context is live is so too where the session leaves then, which has no context
    left_told : (Holds : Machine → Type 0) (m : Machine) (o : Occasion) (r : Result (Reply × Machine) Fault) (x : View) → o.seat ≡ seat → step_of m o.seat event.Leave o.clock ≡ r
        → (live_at m seat name ≡ Some x → Holds m)
        → live_at (machine_after m r) seat name ≡ Some x → Holds (machine_after m r)
    left_told Holds m o (Ok stepped) x at f h l =
        let none = law.left m seat o.clock stepped.0 stepped.1 name (ap (λ k. step_of m k event.Leave o.clock) (sym at) ∙ f) in
        absurd (let n : None ≡ Some x = sym none ∙ l in cc)
    left_told Holds m o (Err fault) x at f h l = h l

    behind_told : (Holds : Machine → Type 0) (m : Machine) (o : Occasion) (left : Bool) (x : View) → o.seat ≡ seat → (live_at m seat name ≡ Some x → Holds m)
        → live_at (left_by left o m) seat name ≡ Some x → Holds (left_by left o m)
    behind_told Holds m o true x at h l = left_told Holds m o (step_of m o.seat event.Leave o.clock) x at refl h l
    behind_told Holds m o false x at h l = h l

    -- a client that has read as far as a MODTIME
    after_modtime : (m : Machine) (e : Event) (clock : ℤ) (r : Result (Reply × Machine) Fault) (names : List (List ℕ)) (whole : Bool) (held : Client) (read unread : List Told) (moment : ℤ) (x : View)
        → step_of m seat e clock ≡ r → IsCurrentMachine m → IsHeld (live_at m seat name) whole held → whole ≡ true
        → told_with e (outcome_of r) ≡ Some (event.Command (command.UpdateContext names), said.Updated (read ++ told_as.Upto name moment ∷ unread))
        → live_at (machine_after m r) seat name ≡ Some x → (client_after_tolds name read held ≡ with_rows x) × IsFresh (machine_after m r) seat x
    after_modtime m e clock (Ok stepped) names whole held read unread moment x f is h w t l =
        let asked = ap (event_told e) t in
        let words = ap (words_told stepped.0.said) t in
        law.modtimes m seat names clock stepped.0 stepped.1 name whole held read unread moment (ap (λ k. step_of m seat k clock) (sym asked) ∙ f) is h words x l w
    after_modtime m e clock (Err fault) names whole held read unread moment x f is h w t l = absurd cc

    by_modtime : (m : Machine) (o : Occasion) (refused : Bool) (asked : Option Event) (names : List (List ℕ)) (whole : Bool) (held : Client) (read unread : List Told) (moment : ℤ) (x : View)
        → o.seat ≡ seat → IsCurrentMachine m → IsHeld (live_at m seat name) whole held → whole ≡ true
        → option_and_then (λ e. option_and_then (told_with e) (option_map (λ e. outcome_of (event_outcome refused m o e)) asked)) asked
        ≡ Some (event.Command (command.UpdateContext names), said.Updated (read ++ told_as.Upto name moment ∷ unread))
        → live_at (machine_by asked o refused m) seat name ≡ Some x → (client_after_tolds name read held ≡ with_rows x) × IsFresh (machine_by asked o refused m) seat x
    by_modtime m o refused None names whole held read unread moment x at is h w t l = absurd cc
    by_modtime m o true (Some e) names whole held read unread moment x at is h w t l = absurd cc
    by_modtime m o false (Some e) names whole held read unread moment x at is h w t l =
        after_modtime m e o.clock (step_of m o.seat e o.clock) names whole held read unread moment x (sym (ap (λ k. step_of m k e o.clock) at)) is h w t l

    -- ---- one step, and all

    step_held : (w : World) (x : Step) (whole : Bool) (held : Client) → IsCurrentMachine w.machine → IsHeld (live_at w.machine seat name) whole held
        → IsHeld (live_at (did x.occasion x.refused x.action w).machine seat name) (if x.occasion.seat == seat then whole_told name (told_in w x) whole else whole)
        (if x.occasion.seat == seat then client_told name (told_in w x) held else held)
    step_held w x whole held is h =
        let moved = moved_in x.occasion x.refused x.action w in
        let b = x.occasion.seat == seat in
        let asked = asked_in w x in
        subst (λ (n : Machine). IsHeld (live_at n seat name) (cond b (whole_told name (told_in w x) whole) whole) (cond b (client_told name (told_in w x) held) held)) (sym moved.is)
        (left_held (machine_by asked x.occasion x.refused w.machine) x.occasion moved.left _ _ (by_held w.machine x.occasion x.refused asked whole held is b refl h))

    step_told : (w : World) (x : Step) (v : View) → IsCurrentMachine w.machine → tells_in seat name w x ≡ true → live_at (did x.occasion x.refused x.action w).machine seat name ≡ Some v
        → IsFresh (did x.occasion x.refused x.action w).machine seat v
    step_told w x v is t l =
        let moved = moved_in x.occasion x.refused x.action w in
        let both = and_parts (x.occasion.seat == seat) _ t in
        let at = eqb-true x.occasion.seat seat both.0 in
        let asked = asked_in w x in
        subst (λ (n : Machine). live_at n seat name ≡ Some v → IsFresh n seat v) (sym moved.is)
        (behind_told (λ n. IsFresh n seat v) (machine_by asked x.occasion x.refused w.machine) x.occasion moved.left v at (by_told w.machine x.occasion x.refused asked v at is both.1)) l

    step_modtime : (w : World) (x : Step) (names : List (List ℕ)) (whole : Bool) (held : Client) (read unread : List Told) (moment : ℤ) (v : View)
        → x.occasion.seat ≡ seat → IsCurrentMachine w.machine → IsHeld (live_at w.machine seat name) whole held → whole ≡ true
        → told_in w x ≡ Some (event.Command (command.UpdateContext names), said.Updated (read ++ told_as.Upto name moment ∷ unread))
        → live_at (did x.occasion x.refused x.action w).machine seat name ≡ Some v
        → (client_after_tolds name read held ≡ with_rows v) × IsFresh (did x.occasion x.refused x.action w).machine seat v
    step_modtime w x names whole held read unread moment v at is h all t l =
        let moved = moved_in x.occasion x.refused x.action w in
        let asked = asked_in w x in
        subst (λ (n : Machine). live_at n seat name ≡ Some v → (client_after_tolds name read held ≡ with_rows v) × IsFresh n seat v) (sym moved.is)
        (behind_told (λ n. (client_after_tolds name read held ≡ with_rows v) × IsFresh n seat v) (machine_by asked x.occasion x.refused w.machine) x.occasion moved.left v at
        (by_modtime w.machine x.occasion x.refused asked names whole held read unread moment v at is h all t)) l

    module _ (formed : (tokens : List Token) (c : Command) → command_of tokens ≡ Ok c → is_named (event.Command c) ≡ true) where
      step_current : (w : World) (x : Step) → NamedWorld w → is_named_action x.action ≡ true → IsCurrentMachine w.machine → IsCurrentMachine (did x.occasion x.refused x.action w).machine
      step_current w x names named is =
          let moved = moved_in x.occasion x.refused x.action w in
          subst IsCurrentMachine (sym moved.is)
          (left_current (machine_by (asked_in w x) x.occasion x.refused w.machine) x.occasion moved.left (by_current w.machine x.occasion x.refused (asked_in w x) (asked_named formed w x names named) is))

      all_held : (steps : List Step) (w : World) (whole : Bool) (held : Client) → NamedWorld w → list_all (λ x. is_named_action x.action) steps ≡ true → IsCurrentMachine w.machine
          → IsHeld (live_at w.machine seat name) whole held
          → IsHeld (live_at (world_after steps w).machine seat name) (whole_in seat name steps w whole) (client_in seat name steps w held)
      all_held [] w whole held names named is h = h
      all_held (x ∷ xs) w whole held names named is h =
          let both = and_parts (is_named_action x.action) _ named in
          all_held xs (did x.occasion x.refused x.action w) _ _ (step_named formed w x names both.0) both.1 (step_current w x names both.0 is) (step_held w x whole held is h)

      all_current : (steps : List Step) (w : World) → NamedWorld w → list_all (λ x. is_named_action x.action) steps ≡ true → IsCurrentMachine w.machine → IsCurrentMachine (world_after steps w).machine
      all_current [] w names named is = is
      all_current (x ∷ xs) w names named is =
          let both = and_parts (is_named_action x.action) _ named in
          all_current xs (did x.occasion x.refused x.action w) (step_named formed w x names both.0) both.1 (step_current w x names both.0 is)

pub named_front : (xs ys : List Step) → list_all (λ x. is_named_action x.action) (xs ++ ys) ≡ true → list_all (λ x. is_named_action x.action) xs ≡ true
named_front [] ys named = refl
named_front (x ∷ xs) ys named =
    let both = and_parts (is_named_action x.action) _ named in
    (λ i. both.0 i && named_front xs ys both.1 i)

module _ (current : CurrentLaw) (law : HeldLaw) (seen : SeenLaw) (formed : (tokens : List Token) (c : Command) → command_of tokens ≡ Ok c → is_named (event.Command c) ≡ true) where
  holds : (realm : Realm) (users : List User) (host : List ℕ) (steps : List Step) (seat : ℕ) (name : List ℕ) (x : View) → AreNamed users steps
      → live_at (world_after steps (new_world realm users host)).machine seat name ≡ Some x → whole_in seat name steps (new_world realm users host) false ≡ true
      → client_in seat name steps (new_world realm users host) None ≡ with_rows x
  holds realm users host steps seat name x named live whole =
      all_held current law seat name formed steps (new_world realm users host) false None (new_named realm users host named.0) named.1 (current.begins realm) (λ y l e. absurd cc) x live whole

  told : (t : Telling) (x : View) → IsTelling AreNamed t x → (client t ≡ with_rows x) × IsFresh (after t).machine t.seat x
  told t x is =
      let before = all_current current law t.seat t.name formed t.steps (start t) (new_named t.realm t.users t.host is.named.0) (named_front t.steps (t.last ∷ []) is.named.1) (current.begins t.realm) in
      let end = run_append t.steps (t.last ∷ []) (start t) in (
        holds t.realm t.users t.host (all_steps t) t.seat t.name x is.named is.live is.whole,
        subst (λ (w : World). IsFresh w.machine t.seat x) (sym end)
            (step_told current law t.seat t.name (world_after t.steps (start t)) t.last x before is.tells (ap (λ (w : World). live_at w.machine t.seat t.name) (sym end) ∙ is.live)),
      )

  modtimes : (t : Telling) (x : View) (names : List (List ℕ)) (read unread : List Told) (moment : ℤ) → IsReading AreNamed t x names read unread moment
      → (client_amid t read ≡ with_rows x) × IsFresh (after t).machine t.seat x
  modtimes t x names read unread moment is =
      let named = named_front t.steps (t.last ∷ []) is.named.1 in
      let begins = new_named t.realm t.users t.host is.named.0 in
      let before = all_current current law t.seat t.name formed t.steps (start t) begins named (current.begins t.realm) in
      let held = all_held current law t.seat t.name formed t.steps (start t) false None begins named (current.begins t.realm) (λ y l e. absurd cc) in
      let end = run_append t.steps (t.last ∷ []) (start t) in
      subst (λ (w : World). (client_amid t read ≡ with_rows x) × IsFresh w.machine t.seat x) (sym end)
      (step_modtime current law t.seat t.name (world_after t.steps (start t)) t.last names (whole_in t.seat t.name t.steps (start t) false) (client_in t.seat t.name t.steps (start t) None)
      read unread moment x is.own before held is.whole is.told (ap (λ (w : World). live_at w.machine t.seat t.name) (sym end) ∙ is.live))

  leads : (fresh : List Match) (enumerated : Bool) (kept : Kept) (shown now : List Match) (pending : List Notice) → kept ≡ Live shown now pending → IsCurrentKept fresh enumerated kept
      → holding_after_all (holding enumerated (rows shown)) pending ≡ Some (holding enumerated (rows fresh))
  leads fresh enumerated kept shown now pending e i =
      let is = subst (IsCurrentKept fresh enumerated) e i in
      is.leads ∙ ap (λ ms. Some (holding enumerated (rows ms))) is.fresh_now

  pub live_law : LiveLaw
  live_law = record {
    holds = holds;
    follows = λ realm users host steps seat name occupant context shown now pending named sits there live.
        let is = all_current current law seat name formed steps (new_world realm users host) (new_named realm users host named.0) named.1 (current.begins realm) in
        leads _ context.enumerated context.kept shown now pending live ((is.sound.current.all seat occupant sits).each name context there).kept;
    told = told;
    modtimes = modtimes;
    seen = λ t u x y is other sought positions alike.
        (told t x is).0
        ∙ (seen (after t).machine (after u).machine t.seat u.seat x y (told t x is).1 (told u y other).1 sought positions alike
        ∙ sym (told u y other).0);
    octets = alone;
  }

-- ---- runs that are named in another way, by which they're named in the first

pub told_so : (A B : List User → List Step → Type 0) → ((users : List User) (steps : List Step) → B users steps → A users steps)
    → (t : Telling) (x : View) → IsTelling B t x → IsTelling A t x
told_so A B so t x is = record { named = so t.users (all_steps t) is.named; tells = is.tells; live = is.live; whole = is.whole }

read_so : (A B : List User → List Step → Type 0) → ((users : List User) (steps : List Step) → B users steps → A users steps)
    → (t : Telling) (x : View) (names : List (List ℕ)) (read unread : List Told) (moment : ℤ) → IsReading B t x names read unread moment → IsReading A t x names read unread moment
read_so A B so t x names read unread moment is =
    record { named = so t.users (all_steps t) is.named; own = is.own; told = is.told; live = is.live; whole = is.whole }

law_so : (A B : List User → List Step → Type 0) → ((users : List User) (steps : List Step) → B users steps → A users steps) → LiveLawOf A → LiveLawOf B
law_so A B so law = record {
  holds = λ realm users host steps seat name x named. law.holds realm users host steps seat name x (so users steps named);
  follows = λ realm users host steps seat name occupant context shown now pending named.
      law.follows realm users host steps seat name occupant context shown now pending (so users steps named);
  told = λ t x is. law.told t x (told_so A B so t x is);
  modtimes = λ t x names read unread moment is. law.modtimes t x names read unread moment (read_so A B so t x names read unread moment is);
  seen = λ t u x y is other. law.seen t u x y (told_so A B so t x is) (told_so A B so u y other);
  octets = law.octets;
}

-- of users who are known to have names
pub law_for : (those : List User) → are_named those ≡ true → LiveLaw → LiveLawFor those
law_for those named law = law_so AreNamed (MayLogIn those) (λ users steps k. (subst (λ us. are_named us ≡ true) (sym k.0) named, k.1)) law
