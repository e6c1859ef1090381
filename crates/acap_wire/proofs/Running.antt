-- What a follower holds over a run of a new world.
use Rattle.std.proofs.Common.{◌≡◌, ℕ, ◌==◌, Bool, true, false, cond, List, [], ◌∷◌, ◌++◌, append_assoc, append-nil, Option, Some, None, refl, sym, ap, subst, ◌∙◌}
use Rattle.std.specs.List.{list_all}
use Rattle.std.specs.Option.{option_map, option_map_or, option_and_then}
use Rattle.std.specs.FinMap as table
use Rattle.std.specs.FinMap.{get-empty}
use Rattle.std.proofs.lemmas.Bool.{and_parts, eqb-true, eqb-false}
use Rattle.acap_client.specs.Following.{Follower, new}
use Rattle.acap_dialogue.specs.Session.{has_seat_at, is_closed}
use Rattle.acap_dialogue.specs.declared.stage.Stage.{Stage}
use Rattle.acap_dialogue.specs.declared.stage.Stage.TheVariants as stage
use Rattle.acap_entries.specs.Orders.{octets_cmp}
use Rattle.acap_grammar.specs.Printed.{PrintedLaw}
use Rattle.acap_grammar.specs.Readable.{HearingLaw}
use Rattle.acap_grammar.specs.Sayable.{IsTagged, ReadableLaw}
use Rattle.acap_login.specs.Login.{User, are_named}
use Rattle.acap_machine.specs.Client.{Client, HeldLaw, IsHeld, View, live_at, live_in, with_rows}
use Rattle.acap_machine.specs.Following.{CurrentLaw, IsCurrentMachine}
use Rattle.acap_machine.specs.Machine.{Machine, user_at}
use Rattle.acap_moves.specs.Hits.{is_among}
use Rattle.acap_rights.specs.declared.realm.Realm.{Realm}
use Rattle.acap_views.specs.Contexts.{Contexts}
use Rattle.acap_views.specs.Seats.{Occupant}
use Rattle.acap_session.specs.Live.{AreNamed, LiveLaw, client_in, client_told, is_named_action, told_in, whole_in, whole_told}
use Rattle.acap_session.specs.Places.{SeatSession, place_at, if_open}
use Rattle.acap_session.specs.Seating.{SeatingLaw, occupant_by}
use Rattle.acap_session.specs.World.{World, Step, did, new_world, open_at, world_after}
use Rattle.acap_session.proofs.Alone.{others_stay}
use Rattle.acap_session.proofs.Forming.{command_formed}
use Rattle.acap_session.proofs.Naming.{NamedWorld, new_named, step_named}
use Rattle.acap_session.proofs.Living.{named_front}
use Rattle.acap_session.proofs.PipeSteps.{run_append}
use Rattle.acap_wire.specs.Seat.{ArePrintable, IsPrintable, after_lines, follower_in}
use Rattle.acap_wire.proofs.Moving.{step_current, step_else}
use Rattle.acap_wire.proofs.Sending.{told_makes}
use Rattle.acap_wire.proofs.Speaking.{tag_by}
use Rattle.acap_wire.proofs.Tagged.{TaggedPlace, all_tagged, by_tag, apart}
use Rattle.acap_wire.proofs.Steps.{Follows, IsReached, own_step}

-- ---- a step more

client_snoc : (seat : ℕ) (q : List ℕ) (xs : List Step) (x : Step) (w : World) (held : Client)
    → client_in seat q (xs ++ x ∷ []) w held ≡ cond (x.occasion.seat == seat) (client_told q (told_in (world_after xs w) x) (client_in seat q xs w held)) (client_in seat q xs w held)
client_snoc seat q [] x w held = refl
client_snoc seat q (y ∷ ys) x w held = client_snoc seat q ys x (did y.occasion y.refused y.action w) _

pub whole_snoc : (seat : ℕ) (q : List ℕ) (xs : List Step) (x : Step) (w : World) (whole : Bool)
    → whole_in seat q (xs ++ x ∷ []) w whole ≡ cond (x.occasion.seat == seat) (whole_told q (told_in (world_after xs w) x) (whole_in seat q xs w whole)) (whole_in seat q xs w whole)
whole_snoc seat q [] x w whole = refl
whole_snoc seat q (y ∷ ys) x w whole = whole_snoc seat q ys x (did y.occasion y.refused y.action w) _

pub follower_snoc : (seat : ℕ) (xs : List Step) (x : Step) (w : World) (f : Follower)
    → follower_in seat (xs ++ x ∷ []) w f ≡ cond (x.occasion.seat == seat) (after_lines (world_after xs w) x (follower_in seat xs w f)).0 (follower_in seat xs w f)
follower_snoc seat [] x w f = refl
follower_snoc seat (y ∷ ys) x w f = follower_snoc seat ys x (did y.occasion y.refused y.action w) _

named_last : (xs ys : List Step) (x : Step) → list_all (λ x. is_named_action x.action) (xs ++ x ∷ ys) ≡ true → is_named_action x.action ≡ true
named_last [] ys x named = (and_parts (is_named_action x.action) _ named).0
named_last (y ∷ xs) ys x named = named_last xs ys x (and_parts (is_named_action y.action) _ named).1

pub printable_front : (seat : ℕ) (xs ys : List Step) (w : World) → ArePrintable seat (xs ++ ys) w → ArePrintable seat xs w
printable_front seat [] ys w can = tt
printable_front seat (x ∷ xs) ys w can = (can.0, printable_front seat xs ys (did x.occasion x.refused x.action w) can.1)

pub printable_last : (seat : ℕ) (xs : List Step) (x : Step) (w : World) → ArePrintable seat (xs ++ x ∷ []) w → x.occasion.seat ≡ seat → IsPrintable (world_after xs w) x
printable_last seat [] x w can at = can.0 at
printable_last seat (y ∷ xs) x w can at = printable_last seat xs x (did y.occasion y.refused y.action w) can.1 at

-- ---- a seat where no session is open has no contexts

nobody : (found : Option Occupant) → option_map (λ (o : Occupant). o.user) found ≡ None → option_map_or (λ (o : Occupant). o.contexts) found table.empty ≡ table.empty
nobody None e = refl
nobody (Some o) e = cc

unlive : (m : Machine) (seat : ℕ) (q : List ℕ) (v : View) → user_at m seat ≡ None → live_at m seat q ≡ Some v → ⊥
unlive m seat q v e l =
    let none : None ≡ Some v =
    sym (ap (λ (cs : Contexts). option_and_then live_in (table.get cs q)) (nobody (table.get m.seats seat) e) ∙ ap (option_and_then live_in) (get-empty octets_cmp q)) ∙ l in
    cc

closed_none : (s : Stage) (user : Option (List ℕ)) → is_closed s ≡ true → cond (has_seat_at s user) user None ≡ None
closed_none stage.Closed user e = refl
closed_none stage.Opening user e = cc
closed_none stage.Entering user e = cc
closed_none stage.Ready user e = cc
closed_none (stage.Asked tag) user e = cc
closed_none (stage.Challenged tag challenge) user e = cc
closed_none (stage.LoggingIn tag name) user e = cc
closed_none stage.Draining user e = cc

no_occupant : (found : Option SeatSession) → if_open found ≡ None → occupant_by found ≡ None
no_occupant None e = refl
no_occupant (Some p) e = elim (is_closed p.talk.stage) as (λ b. is_closed p.talk.stage ≡ b → cond b None (Some p) ≡ None → occupant_by (Some p) ≡ None) [
  | true ↦ λ t k. closed_none p.talk.stage p.talk.user t
  | false ↦ λ t k. absurd cc
] refl e

-- ---- the run

module _ (printed : PrintedLaw) (readable : ReadableLaw) (hearing : HearingLaw) (current : CurrentLaw) (law : HeldLaw) (live : LiveLaw) (seating : SeatingLaw)
    (realm : Realm) (users : List User) (host : List ℕ) (seat : ℕ) (q : List ℕ) where
  abbrev start : World
  start = new_world realm users host

  -- what is so after some steps
  pub record Reaches (steps : List Step) : Type 0 where
    pub named : NamedWorld (world_after steps start)
    pub current_then : IsCurrentMachine (world_after steps start).machine
    pub follows : Follows seat q (world_after steps start) (whole_in seat q steps start false) (client_in seat q steps start None) (follower_in seat steps start new)

  pub reached : (steps : List Step) → Reaches steps → IsReached (world_after steps start)
  reached steps at = record {
    current = at.current_then;
    seats = λ k p v e l. unlive (world_after steps start).machine k p v (seating.occupied realm users host steps k ∙ no_occupant (place_at (world_after steps start).places k) e) l;
  }

  pub held : (steps : List Step) → AreNamed users steps → IsHeld (live_at (world_after steps start).machine seat q) (whole_in seat q steps start false) (client_in seat q steps start None)
  held steps named x l k = live.holds realm users host steps seat q x named l k

  -- what is so after a step of the seat
  pub record Done (k : ℕ) (w : World) (x : Step) (whole : Bool) (client : Client) (f : Follower) : Type 0 where
    pub follows : Follows k q (did x.occasion x.refused x.action w) (whole_told q (told_in w x) whole) (client_told q (told_in w x) client) (after_lines w x f).0
    pub fits : (v : View) → live_at (did x.occasion x.refused x.action w).machine k q ≡ Some v → whole_told q (told_in w x) whole ≡ true → is_among q (after_lines w x f).1 ≡ false

  abbrev Does : World → Step → Bool → Client → Follower → ℕ → Type 0
  Does w x whole client f k =
      Follows k q w whole client f → IsHeld (live_at w.machine k q) whole client
      → ((v : View) → live_at (did x.occasion x.refused x.action w).machine k q ≡ Some v → whole_told q (told_in w x) whole ≡ true → client_told q (told_in w x) client ≡ with_rows v)
      → Done k w x whole client f

  own_at : (w : World) (x : Step) (whole : Bool) (client : Client) (f : Follower) (k : ℕ) → x.occasion.seat ≡ k → IsReached w → IsPrintable w x → IsTagged (tag_by x.action (open_at w x.occasion.seat)) → Does w x whole client f k
  own_at w x whole client f k at is can tagged =
      subst (Does w x whole client f) at
      (λ old h then.
      let s = own_step printed readable hearing current law w x q is whole client f old h can tagged (told_makes w x) then in
      record { follows = s.follows; fits = s.fits })

  -- ---- a step more

  module _ (steps : List Step) (x : Step) (at : Reaches steps) (named : AreNamed users (steps ++ x ∷ [])) where
    abbrev w : World
    w = world_after steps start

    abbrev whole : Bool
    whole = whole_in seat q steps start false

    abbrev client : Client
    client = client_in seat q steps start None

    abbrev f : Follower
    f = follower_in seat steps start new

    abbrev State : Type 0
    State = World × (Bool × (Client × Follower))

    abbrev FollowsAt : State → Type 0
    FollowsAt s = Follows seat q s.0 s.1.0 s.1.1.0 s.1.1.1

    abbrev state : List Step → State
    state xs = (world_after xs start, (whole_in seat q xs start false, (client_in seat q xs start None, follower_in seat xs start new)))

    abbrev own_state : Bool → State
    own_state b =
        (did x.occasion x.refused x.action w, (cond b (whole_told q (told_in w x) whole) whole, (cond b (client_told q (told_in w x) client) client, cond b (after_lines w x f).0 f)))

    state_is : (b : Bool) → (x.occasion.seat == seat) ≡ b → state (steps ++ x ∷ []) ≡ own_state b
    state_is b e = (λ i. (
      run_append steps (x ∷ []) start i,
      (
        (whole_snoc seat q steps x start false ∙ ap (λ c. cond c (whole_told q (told_in w x) whole) whole) e) i,
        (
          (client_snoc seat q steps x start None ∙ ap (λ c. cond c (client_told q (told_in w x) client) client) e) i,
          (follower_snoc seat steps x start new ∙ ap (λ c. cond c (after_lines w x f).0 f) e) i,
        ),
      ),
    ))

    then_held : (b : Bool) → (x.occasion.seat == seat) ≡ b → (v : View) → live_at (did x.occasion x.refused x.action w).machine seat q ≡ Some v → cond b (whole_told q (told_in w x) whole) whole ≡ true
        → cond b (client_told q (told_in w x) client) client ≡ with_rows v
    then_held b e = subst (λ (s : State). (v : View) → live_at s.0.machine seat q ≡ Some v → s.1.0 ≡ true → s.1.1.0 ≡ with_rows v) (state_is b e) (held (steps ++ x ∷ []) named)

    tag_then : x.occasion.seat ≡ seat → IsTagged (tag_by x.action (open_at w x.occasion.seat))
    tag_then k = by_tag x.action (open_at w x.occasion.seat) (subst (λ j. TaggedPlace (open_at w j)) (sym k) (all_tagged seat steps start tt))

    pub own_done : x.occasion.seat ≡ seat → (x.occasion.seat == seat) ≡ true → IsPrintable w x → Done seat w x whole client f
    own_done k e can =
        own_at w x whole client f seat k (reached steps at) can (tag_then k) at.follows (held steps (named.0, named_front steps (x ∷ []) named.1)) (then_held true e)

    else_done : (x.occasion.seat == seat) ≡ false → FollowsAt (own_state false)
    else_done e =
        let away = apart x.occasion.seat seat e in
        let place = (others_stay x w).0 seat (eqb-false seat x.occasion.seat away) in
        record {
          asked = λ p k. at.follows.asked p (sym (ap if_open place) ∙ k);
          holds = λ v l k. let before = step_else current law seat q w x v away l in at.follows.holds before.0 before.1 k;
        }

    follows_then : (x.occasion.seat ≡ seat → IsPrintable w x) → FollowsAt (state (steps ++ x ∷ []))
    follows_then can = elim (x.occasion.seat == seat) as (λ b. (x.occasion.seat == seat) ≡ b → FollowsAt (state (steps ++ x ∷ []))) [
      | true ↦ λ e. let k = eqb-true x.occasion.seat seat e in subst FollowsAt (sym (state_is true e)) (own_done k e (can k)).follows
      | false ↦ λ e. subst FollowsAt (sym (state_is false e)) (else_done e)
    ] refl

    pub reaches_then : (x.occasion.seat ≡ seat → IsPrintable w x) → Reaches (steps ++ x ∷ [])
    reaches_then can =
        let named_here = named_last steps [] x named.1 in
        record {
          named = subst NamedWorld (sym (run_append steps (x ∷ []) start)) (step_named command_formed w x at.named named_here);
          current_then = subst (λ (v : World). IsCurrentMachine v.machine) (sym (run_append steps (x ∷ []) start)) (step_current current law w x at.named named_here at.current_then);
          follows = follows_then can;
        }

  -- ---- all steps

  at_start : are_named users ≡ true → Reaches []
  at_start named = record {
    named = new_named realm users host named;
    current_then = current.begins realm;
    follows = record { asked = λ p e. refl; holds = λ v l k. absurd cc };
  }

  reach : (done rest : List Step) → Reaches done → AreNamed users (done ++ rest) → ArePrintable seat rest (world_after done start) → Reaches (done ++ rest)
  reach done [] at named can = subst Reaches (sym (append-nil done)) at
  reach done (x ∷ rest) at named can =
      let all = append_assoc done (x ∷ []) rest in
      let more : AreNamed users ((done ++ x ∷ []) ++ rest) = subst (AreNamed users) (sym all) named in
      let here = reaches_then done x at (more.0, named_front (done ++ x ∷ []) rest more.1) can.0 in
      subst Reaches all (reach (done ++ x ∷ []) rest here more (subst (ArePrintable seat rest) (sym (run_append done (x ∷ []) start)) can.1))

  pub reaches : (steps : List Step) → AreNamed users steps → ArePrintable seat steps start → Reaches steps
  reaches steps named can = reach [] steps (at_start named.0) named can
