-- What a session's first turn leaves: where its user isn't let in, or memory is refused, the machine is as it was.
use Rattle.std.proofs.Common.{◌≡◌, inl, inr, ℕ, Bool, true, false, ◌||◌, is_ok, List, Option, Some, None, Result, Ok, Err, OnErr, refl, sym, ap, subst, ◌∙◌, append-nil}
use Rattle.acap_login.specs.Login.{User}
use Rattle.acap_commands.specs.declared.reply.Reply.{Reply}
use Rattle.acap_machine.specs.Machine.{Machine, user_at}
use Rattle.acap_machine.specs.Runs.{outcome_of, machine_after}
use Rattle.acap_machine.proofs.SeatLemmas.{entered_user, left_again}
use Rattle.acap_machine.specs.Stepping.{enter_answer as seating, by_user, left_at}
use Rattle.acap_commands.specs.declared.event.Event.TheVariants as events
use Rattle.acap_commands.specs.declared.event.Fault.{Fault}
use Rattle.acap_dialogue.specs.Hearing.{opening}
use Rattle.acap_dialogue.specs.Session.{session_next, next_at, after_answer, has_seat, has_seat_at, is_closed, comes_to}
use Rattle.acap_dialogue.specs.Talking.{Talking}
use Rattle.acap_session.specs.Turning.{Scene, event_outcome, turn_and_scene, turn_by, turn_of, left_by, IsCutFrom, IsTurn, WasCut}
use Rattle.acap_session.specs.declared.occasion.Occasion.{Occasion}
use Rattle.acap_dialogue.specs.declared.stage.Stage.TheVariants as stage
use Rattle.acap_session.specs.declared.occasion.Turn.{Turn}

-- ---- a user who enters a free seat, and leaves it

abbrev pub entered_as : Machine → ℕ → List ℕ → Machine
entered_as m seat name = machine_after m (seating m seat name None)

left_at_once : (m : Machine) (o : Occasion) (name : List ℕ) → user_at m o.seat ≡ None → left_by true o (entered_as m o.seat name) ≡ m
left_at_once m o name e =
    let n = entered_as m o.seat name in
    ap (λ x. machine_after n (by_user x (λ user. left_at n o.seat))) (entered_user m o.seat name) ∙ left_again m o.seat name e

entered_left : (m : Machine) (o : Occasion) (name : List ℕ) (x : Option (List ℕ)) → user_at m o.seat ≡ x → (let r = seating m o.seat name x in left_by (is_ok r) o (machine_after m r)) ≡ m
entered_left m o name None e = left_at_once m o name e
entered_left m o name (Some other) e = refl

performed_left : (m : Machine) (o : Occasion) (name : List ℕ) (refused : Bool) → (let r = event_outcome refused m o (events.Enter name) in left_by (is_ok r) o (machine_after m r)) ≡ m
performed_left m o name true = refl
performed_left m o name false = entered_left m o name (user_at m o.seat) refl

-- ---- the first turn

abbrev first_by : List User → Occasion → Bool → Scene → Option (List ℕ) → Turn × Scene
first_by users o refused s user = turn_by o refused s (comes_to s.talk (opening user))

first_turn : (users : List User) (o : Occasion) (refused : Bool) (s : Scene) → s.talk.stage ≡ stage.Opening → turn_of users o refused s ≡ first_by users o refused s s.talk.user
unfolding turn_of session_next
first_turn users o refused s e = ap (λ x. turn_by o refused s (next_at users o.nonce o.clock x s.talk)) e

abbrev welcomed_by : Occasion → Machine → List ℕ → Talking → Result (Reply × Machine) Fault → Turn × Scene
welcomed_by o m out t r = turn_and_scene o (has_seat (record t { stage = stage.Entering }) || is_ok r) (machine_after m r) out (after_answer (record t { stage = stage.Entering }) (outcome_of r))

not_welcome : (o : Occasion) (m : Machine) (out : List ℕ) (t : Talking) (r : Result (Reply × Machine) Fault) → is_closed (welcomed_by o m out t r).1.talk.stage ≡ true → ((welcomed_by o m out t r).1.machine ≡ m) × ((welcomed_by o m out t r).1.out ≡ out)
unfolding after_answer
not_welcome o m out t (Ok x) e = absurd cc
not_welcome o m out t (Err f) e = (refl, append-nil out)

first_closed_by : (users : List User) (o : Occasion) (refused : Bool) (s : Scene) (user : Option (List ℕ)) → is_closed (first_by users o refused s user).1.talk.stage ≡ true → ((first_by users o refused s user).1.machine ≡ s.machine) × ((first_by users o refused s user).1.out ≡ s.out)
unfolding opening
first_closed_by users o refused s None e = absurd cc
first_closed_by users o refused s (Some name) e = not_welcome o s.machine s.out s.talk (event_outcome refused s.machine o (events.Enter name)) e

first_open_by : (users : List User) (o : Occasion) (refused : Bool) (s : Scene) (user : Option (List ℕ)) → is_closed (first_by users o refused s user).1.talk.stage ≡ false → first_by users o refused s user ≡ first_by users o false s user
unfolding opening after_answer
first_open_by users o false s user e = refl
first_open_by users o true s None e = refl
first_open_by users o true s (Some name) e = absurd cc

-- where the session is closed nothing was done
pub first_closed : (users : List User) (o : Occasion) (refused : Bool) (s : Scene) → s.talk.stage ≡ stage.Opening → is_closed (turn_of users o refused s).1.talk.stage ≡ true → ((turn_of users o refused s).1.machine ≡ s.machine) × ((turn_of users o refused s).1.out ≡ s.out)
first_closed users o refused s e c =
    let k = first_turn users o refused s e in
    subst (λ (x : Turn × Scene). (x.1.machine ≡ s.machine) × (x.1.out ≡ s.out)) (sym k) (first_closed_by users o refused s s.talk.user (ap (λ (x : Turn × Scene). is_closed x.1.talk.stage) (sym k) ∙ c))

-- where it stays open nothing was refused
pub first_open : (users : List User) (o : Occasion) (refused : Bool) (s : Scene) → s.talk.stage ≡ stage.Opening → is_closed (turn_of users o refused s).1.talk.stage ≡ false → turn_of users o refused s ≡ turn_of users o false s
first_open users o refused s e c =
    let k = first_turn users o refused s e in
    k ∙ first_open_by users o refused s s.talk.user (ap (λ (x : Turn × Scene). is_closed x.1.talk.stage) (sym k) ∙ c) ∙ sym (first_turn users o false s e)

-- a user is let in where nobody has the seat
let_in : (o : Occasion) (m : Machine) (out : List ℕ) (t : Talking) (name : List ℕ) (x : Option (List ℕ)) → x ≡ None → is_closed (welcomed_by o m out t (seating m o.seat name x)).1.talk.stage ≡ false
unfolding after_answer
let_in o m out t name None e = refl
let_in o m out t name (Some other) e = absurd cc

stays_by : (users : List User) (o : Occasion) (s : Scene) (user : Option (List ℕ)) → user_at s.machine o.seat ≡ None → is_closed (first_by users o false s user).1.talk.stage ≡ false
unfolding opening
stays_by users o s None e = refl
stays_by users o s (Some name) e = let_in o s.machine s.out s.talk name (user_at s.machine o.seat) e

pub first_stays : (users : List User) (o : Occasion) (s : Scene) → s.talk.stage ≡ stage.Opening → user_at s.machine o.seat ≡ None → is_closed (turn_of users o false s).1.talk.stage ≡ false
first_stays users o s e f = ap (λ (x : Turn × Scene). is_closed x.1.talk.stage) (first_turn users o false s e) ∙ stays_by users o s s.talk.user f

no_seat : (t : Talking) → t.stage ≡ stage.Opening → has_seat t ≡ false
no_seat t e = ap (λ s. has_seat_at s t.user) e

unseated : (o : Occasion) (t : Talking) (m n : Machine) → t.stage ≡ stage.Opening → n ≡ left_by (has_seat t) o m → n ≡ m
unseated o t m n e k = k ∙ ap (λ b. left_by b o m) (no_seat t e)

cut_by : (o : Occasion) (s : Scene) (user : Option (List ℕ)) (m : Machine) → s.talk.stage ≡ stage.Opening → IsCutFrom o s (comes_to s.talk (opening user)) m → m ≡ s.machine
unfolding opening
cut_by o s None m e k = unseated o s.talk s.machine m e k
cut_by o s (Some name) m e (inl k) = unseated o s.talk s.machine m e k
cut_by o s (Some name) m e (inr k) = k.is ∙ performed_left s.machine o name k.refused

first_next : (users : List User) (o : Occasion) (t : Talking) → t.stage ≡ stage.Opening → session_next users o.nonce o.clock t ≡ comes_to t (opening t.user)
unfolding session_next
first_next users o t e = ap (λ x. next_at users o.nonce o.clock x t) e

-- where the session itself is refused memory nothing was done either
pub first_cut : (users : List User) (o : Occasion) (s new : Scene) → s.talk.stage ≡ stage.Opening → WasCut o s (session_next users o.nonce o.clock s.talk) new → (new.machine ≡ s.machine) × (new.out ≡ s.out)
first_cut users o s new e k = (cut_by o s s.talk.user new.machine e (subst (λ x. IsCutFrom o s x new.machine) (first_next users o s.talk e) k.machine_is), k.out_is)

-- ---- by what the turn came to

pub began : (users : List User) (o : Occasion) (old : Scene) (came : Turn) (new : Scene) → old.talk.stage ≡ stage.Opening → IsTurn users o old came new → is_closed new.talk.stage ≡ false → new ≡ (turn_of users o false old).1
began users o old came new e k c =
    let now : new ≡ (turn_of users o k.refused old).1 = ap (λ (p : Turn × Scene). p.1) k.is in
    now ∙ ap (λ (p : Turn × Scene). p.1) (first_open users o k.refused old e (ap (λ (s : Scene). is_closed s.talk.stage) (sym now) ∙ c))

pub began_closed : (users : List User) (o : Occasion) (old : Scene) (came : Turn) (new : Scene) → old.talk.stage ≡ stage.Opening → IsTurn users o old came new → is_closed new.talk.stage ≡ true → (new.machine ≡ old.machine) × (new.out ≡ old.out)
began_closed users o old came new e k c =
    let now : new ≡ (turn_of users o k.refused old).1 = ap (λ (p : Turn × Scene). p.1) k.is in
    subst (λ (s : Scene). (s.machine ≡ old.machine) × (s.out ≡ old.out)) (sym now) (first_closed users o k.refused old e (ap (λ (s : Scene). is_closed s.talk.stage) (sym now) ∙ c))

-- what holds holds at a fault
pub at_fault : {T E : Type 0} (r : Result T E) (P : Type 0) → P → OnErr r P
at_fault (Ok x) P p = tt
at_fault (Err e) P p = p
