-- What stands at a seat comes of its own steps, and the machine of their events.
use Rattle.std.proofs.Common.{◌≡◌, inl, inr, ℕ, zero, suc, Bool, true, false, not, ◌&&◌, ◌||◌, ◌==◌, List, [], ◌∷◌, ◌++◌, Option, Some, None, Result, Ok, Err, refl, sym, ap, subst, ◌∙◌, if◌then◌else◌}
use Rattle.std.specs.Prelude.{◌≢◌, ◌⊎◌, is_ok, option_map}
use Rattle.std.specs.Option.{option_and_then, option_or}
use Rattle.std.proofs.lemmas.Bool.{eqb-true, eqb-false}
use Rattle.std.proofs.Math.Bool.{or-false}
use Rattle.acap_commands.specs.declared.event.Event.{Event}
use Rattle.acap_commands.specs.declared.event.Event.TheVariants as event
use Rattle.acap_commands.specs.declared.event.Fault.{Fault}
use Rattle.acap_commands.specs.declared.reply.Reply.{Reply}
use Rattle.acap_machine.specs.Machine.{Machine}
use Rattle.acap_machine.specs.Runs.{machine_after, outcome_of, run_of}
use Rattle.acap_machine.specs.Stepping.{step_of}
use Rattle.acap_session.specs.Laws.{OwnStep, did_in, maker_in, place_in, leave_of, own, own_run, own_at, own_of, own_steps, replies_in, steps_in, IsStepOf, SessionLaw, OthersStay, StepAlone, AloneLaw}
use Rattle.acap_session.specs.Places.{SeatSession, Places, place_at, with_place}
use Rattle.acap_dialogue.specs.Running as dialogue
use Rattle.acap_dialogue.specs.Running.{At, Call, Outcome, call_of, calls_with, closes, event_in, is_left, leaves_by, leaving, seated_by, after_saying, after_turn}
use Rattle.acap_dialogue.specs.Session.{after_answer, has_seat, has_seat_at, session_next, session_drain}
use Rattle.acap_dialogue.specs.Talking.{Talking, beginning}
use Rattle.acap_dialogue.proofs.Running.{Seats, next_seats, drain_seats, answered_seat, reply_goes_on}
use Rattle.acap_session.specs.Turning.{Scene, scene, turn_and_scene, left_by, turn_by, turn_of, drain_of, event_outcome}
use Rattle.acap_session.specs.World as world
use Rattle.acap_session.specs.World.{World, Action, Step, at_open, did, ends, open_at, opened_at, world_after, said_before, scene_of, takes, with_scene}
use Rattle.acap_dialogue.specs.declared.next.Next.{Next}
use Rattle.acap_dialogue.specs.declared.next.Next.TheVariants as next
use Rattle.acap_session.specs.declared.occasion.Occasion.{Occasion}
use Rattle.acap_session.proofs.Placing.{placed_there}

-- ---- a place that is set

pub placed_other : (xs : Places) (k j : ℕ) (p : SeatSession) → j ≢ k → place_at (with_place xs k p) j ≡ place_at xs j
placed_other [] zero zero p e = absurd (e refl)
placed_other [] (suc k) (suc j) p e = placed_other [] k j p (λ s. e (ap suc s))
placed_other (x ∷ xs) zero zero p e = absurd (e refl)
placed_other (x ∷ xs) (suc k) (suc j) p e = placed_other xs k j p (λ s. e (ap suc s))
placed_other xs k j p e = refl

-- ---- one step, by the session that is open, if one is

abbrev pub place_of : Scene → SeatSession
place_of s = record { talk = s.talk; out = s.out }

abbrev pub did_by : Occasion → Bool → Action → World → Option SeatSession → World
did_by o refused (world.Open user) w now = opened_at w o refused user now
did_by o refused (world.Piece octets) w now = at_open w o.seat (takes octets) now
did_by o refused world.Turn w now = at_open w o.seat (λ s. (turn_of w.users o refused s).1) now
did_by o refused world.Drain w now = at_open w o.seat (λ s. (drain_of o refused s).1) now
did_by o refused world.Leave w now = at_open w o.seat (ends o) now

pub did_is : (o : Occasion) (refused : Bool) (action : Action) (w : World) → did o refused action w ≡ did_by o refused action w (open_at w o.seat)
unfolding did
did_is o refused (world.Open user) w = refl
did_is o refused action w = refl

-- the world is left, or something is set at the seat
abbrev Sets : World → ℕ → World → Type 0
Sets w k v = (v ≡ w) ⊎ ((s : Scene) × (v ≡ with_scene w k s))

sets : (o : Occasion) (refused : Bool) (action : Action) (w : World) (now : Option SeatSession) → Sets w o.seat (did_by o refused action w now)
sets o refused (world.Open user) w (Some p) = inl refl
sets o refused (world.Piece octets) w None = inl refl
sets o refused world.Turn w None = inl refl
sets o refused world.Drain w None = inl refl
sets o refused world.Leave w None = inl refl
sets o refused action w now = inr (_, refl)

stays : (w v : World) (k : ℕ) → Sets w k v → ((seat : ℕ) → seat ≢ k → place_at v.places seat ≡ place_at w.places seat) × (v.users ≡ w.users) × (v.host ≡ w.host)
stays w v k (inl e) = ((λ seat ne. ap (λ (u : World). place_at u.places seat) e), ap (λ (u : World). u.users) e, ap (λ (u : World). u.host) e)
stays w v k (inr (s, e)) = ((λ seat ne. ap (λ (u : World). place_at u.places seat) e ∙ placed_other w.places k seat (place_of s) ne), ap (λ (u : World). u.users) e, ap (λ (u : World). u.host) e)

pub others_stay : OthersStay
others_stay x w =
    stays w (did x.occasion x.refused x.action w) x.occasion.seat
    (subst (λ v. Sets w x.occasion.seat v) (sym (did_is x.occasion x.refused x.action w)) (sets x.occasion x.refused x.action w (open_at w x.occasion.seat)))

-- ---- the events of a step lead the machine on

abbrev Leads : Machine → ℕ → List Call → Machine → Type 0
Leads m seat calls n = run_of m (steps_in seat calls) ≡ (replies_in calls, n)

one_leads : (m : Machine) (o : Occasion) (e : Event) (r : Result (Reply × Machine) Fault) (rest : List Call) (n : Machine) → step_of m o.seat e o.clock ≡ r
    → Leads (machine_after m r) o.seat rest n → Leads m o.seat (call_of o.clock (Some e) (Some (outcome_of r)) ++ rest) n
one_leads m o e (Ok stepped) rest n k h =
    ap (λ r. (outcome_of r ∷ (run_of (machine_after m r) (steps_in o.seat rest)).0, (run_of (machine_after m r) (steps_in o.seat rest)).1)) k
    ∙ (λ i. (Ok stepped.0 ∷ (h i).0, (h i).1))
one_leads m o e (Err f) rest n k h = h

event_leads : (refused : Bool) (m : Machine) (o : Occasion) (e : Event) (rest : List Call) (n : Machine) → let r = event_outcome refused m o e in
    Leads (machine_after m r) o.seat rest n → Leads m o.seat (call_of o.clock (Some e) (Some (outcome_of r)) ++ rest) n
event_leads true m o e rest n h = h
event_leads false m o e rest n h = one_leads m o e (step_of m o.seat e o.clock) rest n refl h

last_leads : (m : Machine) (o : Occasion) (e : Event) (r : Result (Reply × Machine) Fault) → step_of m o.seat e o.clock ≡ r
    → Leads m o.seat (call_of o.clock (Some e) (Some (outcome_of r))) (machine_after m r)
last_leads m o e (Ok stepped) k = ap (λ r. (outcome_of r ∷ [], machine_after m r)) k
last_leads m o e (Err f) k = refl

leave_leads : (b : Bool) (m : Machine) (o : Occasion) → Leads m o.seat (call_of o.clock (Some event.Leave) (leave_of b m o)) (left_by b o m)
leave_leads true m o = last_leads m o event.Leave (step_of m o.seat event.Leave o.clock) refl
leave_leads false m o = refl

-- ---- a turn or a drain

abbrev at_scene : Scene → At
at_scene s = record { talk = s.talk; out = s.out; seated = has_seat s.talk }

leave_made : (b : Bool) (m : Machine) (o : Occasion) (at : At) → leaving b (leave_of b m o) at ≡ Some at
leave_made true m o at = refl
leave_made false m o at = refl

-- once what is next is said, and the session has left where it is closed
record Ends (o : Occasion) (m : Machine) (out : List ℕ) (b c : Bool) (n : Next) (t : Talking) : Type 0 where
  is : leaving (is_left (b, (n, t))) (leave_of (is_left (b, (n, t))) m o) (after_saying out (b, (n, t))) ≡ Some (at_scene (turn_and_scene o c m out (n, t)).1)
  leads : Leads m o.seat (call_of o.clock (Some event.Leave) (leave_of (is_left (b, (n, t))) m o)) (turn_and_scene o c m out (n, t)).1.machine

ended : (o : Occasion) (m : Machine) (out : List ℕ) (b c : Bool) (n : Next) (t : Talking) → has_seat t ≡ (not (closes n) && b) → (closes n ≡ true → b ≡ c) → Ends o m out b c n t
ended o m out b c next.More t h f = record { is = ap (λ k. Some (record { talk = t; out = out; seated = k })) (sym h); leads = refl }
ended o m out b c (next.Say octets) t h f = record { is = ap (λ k. Some (record { talk = t; out = out ++ octets; seated = k })) (sym h); leads = refl }
ended o m out b c (next.Ask e) t h f = record { is = ap (λ k. Some (record { talk = t; out = out; seated = k })) (sym h); leads = refl }
ended o m out b c (next.Close octets) t h f = record {
  is = leave_made b m o (after_saying out (b, (next.Close octets, t))) ∙ ap (λ k. Some (record { talk = t; out = out ++ octets; seated = k })) (sym h);
  leads = subst (λ k. Leads m o.seat (call_of o.clock (Some event.Leave) (leave_of b m o)) (left_by k o m)) (f refl) (leave_leads b m o);
}

fault_leaves : (e : Event) (f : Fault) (b : Bool) → seated_by e (Err f) b ≡ b
fault_leaves (event.Enter user) f b = refl
fault_leaves e f b = refl

-- who is closed by an answer was answered with a fault
same_seat : (t : Talking) (e : Event) (b : Bool) (r : Result (Reply × Machine) Fault) → has_seat t ≡ b → closes (after_answer t (outcome_of r)).0 ≡ true
    → seated_by e (outcome_of r) b ≡ (has_seat t || is_ok r)
same_seat t e b (Ok stepped) h c = absurd (let k : false ≡ true = sym (reply_goes_on t stepped.0) ∙ c in cc)
same_seat t e b (Err f) h c = fault_leaves e f b ∙ sym h ∙ sym (or-false (has_seat t))

abbrev answer_to : Bool → Machine → Occasion → Option Event → Outcome
answer_to refused m o asks = option_map (λ e. outcome_of (event_outcome refused m o e)) asks

abbrev after_event : Bool → Machine → Occasion → Option Event → Machine
after_event refused m o None = m
after_event refused m o (Some e) = machine_after m (event_outcome refused m o e)

abbrev leave_behind : Occasion → Bool → Scene → Next × Talking → Outcome
leave_behind o refused s x =
    leave_of (leaves_by (has_seat s.talk) x (answer_to refused s.machine o (event_in x))) (after_event refused s.machine o (event_in x)) o

record Turns (o : Occasion) (refused : Bool) (s : Scene) (x : Next × Talking) : Type 0 where
  is : after_turn (at_scene s) x (answer_to refused s.machine o (event_in x)) (leave_behind o refused s x) ≡ Some (at_scene (turn_by o refused s x).1)
  leads : Leads s.machine o.seat (calls_with o.clock (event_in x) (answer_to refused s.machine o (event_in x)) (leave_behind o refused s x)) (turn_by o refused s x).1.machine

turns : (o : Occasion) (refused : Bool) (s : Scene) (n : Next) (t : Talking) → Seats (has_seat s.talk) t.user n t.stage → Turns o refused s (n, t)
turns o refused s next.More t h =
    let b = has_seat s.talk in
    let made = ended o s.machine s.out b b next.More t h (λ c. refl) in
    record { is = made.is; leads = made.leads }
turns o refused s (next.Say octets) t h =
    let b = has_seat s.talk in
    let made = ended o s.machine s.out b b (next.Say octets) t h (λ c. refl) in
    record { is = made.is; leads = made.leads }
turns o refused s (next.Ask e) t h =
    let b = has_seat s.talk in
    let r = event_outcome refused s.machine o e in
    let y = after_answer t (outcome_of r) in
    let seat = answered_seat e b t (outcome_of r) h.0 h.1 in
    let made = ended o (machine_after s.machine r) s.out (seated_by e (outcome_of r) b) (has_seat t || is_ok r) y.0 y.1 seat (same_seat t e b r h.0) in
    record { is = made.is; leads = event_leads refused s.machine o e _ _ made.leads }
turns o refused s (next.Close octets) t h =
    let b = has_seat s.talk in
    let made = ended o s.machine s.out b b (next.Close octets) t (ap (λ k. has_seat_at k t.user) h) (λ c. refl) in
    record { is = made.is; leads = made.leads }

-- ---- a step of a world

abbrev step_on : Occasion → Bool → Action → Step
step_on o refused action = record { occasion = o; refused = refused; action = action }

session_by : (o : Occasion) (refused : Bool) (action : Action) (w : World) (now : Option SeatSession) →
    IsStepOf (own_at w (step_on o refused action) now) (maker_in w (step_on o refused action) now) w (did_by o refused action w now)
unfolding dialogue.did turn_of drain_of
session_by o refused (world.Open user) w None =
    let s = scene w.machine (beginning w.host user) (said_before (place_at w.places o.seat)) in
    let x = session_next w.users o.nonce o.clock s.talk in
    let made = turns o refused s x.0 x.1 (next_seats w.users o.nonce o.clock s.talk) in
    let end = (turn_by o refused s x).1 in
    record { end = at_scene end; is = made.is; seated = refl; stands = placed_there w.places o.seat (place_of end); machine = made.leads }
session_by o refused (world.Piece octets) w (Some p) =
    let end = takes octets (scene_of w p) in
    record { end = at_scene end; is = refl; seated = refl; stands = placed_there w.places o.seat (place_of end); machine = refl }
session_by o refused world.Turn w (Some p) =
    let s = scene_of w p in
    let x = session_next w.users o.nonce o.clock s.talk in
    let made = turns o refused s x.0 x.1 (next_seats w.users o.nonce o.clock s.talk) in
    let end = (turn_by o refused s x).1 in
    record { end = at_scene end; is = made.is; seated = refl; stands = placed_there w.places o.seat (place_of end); machine = made.leads }
session_by o refused world.Drain w (Some p) =
    let s = scene_of w p in
    let x = session_drain s.talk in
    let made = turns o refused s x.0 x.1 (drain_seats s.talk) in
    let end = (turn_by o refused s x).1 in
    record { end = at_scene end; is = made.is; seated = refl; stands = placed_there w.places o.seat (place_of end); machine = made.leads }
session_by o refused world.Leave w (Some p) =
    let end = ends o (scene_of w p) in
    record {
      end = at_scene end;
      is = leave_made (has_seat p.talk) w.machine o (at_scene end);
      seated = refl;
      stands = placed_there w.places o.seat (place_of end);
      machine = leave_leads (has_seat p.talk) w.machine o;
    }
session_by o refused action w now = refl

pub session_law : SessionLaw
session_law x w =
    subst (λ v. IsStepOf (own_of w x) (maker_in w x (open_at w x.occasion.seat)) w v) (sym (did_is x.occasion x.refused x.action w))
    (session_by x.occasion x.refused x.action w (open_at w x.occasion.seat))

stands : (x : OwnStep) (at : Option At) (w v : World) → IsStepOf x at w v →
    place_at v.places x.occasion.seat ≡ option_or (option_map place_in (option_and_then (dialogue.did w.users (did_in x)) at)) (place_at w.places x.occasion.seat)
stands x None w v e = ap (λ (u : World). place_at u.places x.occasion.seat) e
stands x (Some at) w v h = h.stands ∙ sym (ap (λ o. option_or (option_map place_in o) (place_at w.places x.occasion.seat)) h.is)

pub step_alone : StepAlone
unfolding own
step_alone x w = stands (own_of w x) (maker_in w x (open_at w x.occasion.seat)) w (did x.occasion x.refused x.action w) (session_law x w)

-- ---- all steps

one_more : (seat : ℕ) (x : Step) (rest : List OwnStep) (w : World) (b : Bool) → (x.occasion.seat == seat) ≡ b →
    own_run w.users w.host rest (place_at (did x.occasion x.refused x.action w).places seat)
    ≡ own_run w.users w.host (if b then own_of w x ∷ rest else rest) (place_at w.places seat)
one_more seat x rest w true e =
    let k = eqb-true x.occasion.seat seat e in
    ap (own_run w.users w.host rest) (subst (λ j. place_at (did x.occasion x.refused x.action w).places j ≡ own w.users w.host (own_of w x) (place_at w.places j)) k (step_alone x w))
one_more seat x rest w false e =
    ap (own_run w.users w.host rest) ((others_stay x w).0 seat (λ s. eqb-false x.occasion.seat seat e (sym s)))

pub alone : AloneLaw
alone seat [] w = refl
alone seat (x ∷ xs) w =
    let v = did x.occasion x.refused x.action w in
    let same = others_stay x w in
    let rest = own_steps seat xs v in
    alone seat xs v ∙ (λ i. own_run (same.1 i) (same.2 i) rest (place_at v.places seat)) ∙ one_more seat x rest w (x.occasion.seat == seat) refl
