-- What is said at a seat in a step of a world, and how it goes with what was sent and what the machine said.
use Rattle.std.proofs.Common.{◌≡◌, ℕ, ℤ, Bool, true, false, cond, List, [], ◌++◌, append-nil, Option, Some, None, Result, refl, sym, ap, subst, ◌∙◌}
use Rattle.std.specs.Prelude.{length, drop}
use Rattle.std.specs.Option.{option_map, option_and_then}
use Rattle.std.proofs.Math.Seq.{drop-append_seam}
use Rattle.acap_login.specs.Login.{User}
use Rattle.acap_commands.specs.declared.event.Event.{Event}
use Rattle.acap_commands.specs.declared.event.Event.TheVariants as event
use Rattle.acap_commands.specs.declared.event.Fault.{Fault}
use Rattle.acap_commands.specs.declared.reply.Reply.{Reply}
use Rattle.acap_commands.specs.declared.said.Said.{Said}
use Rattle.acap_dialogue.specs.Running.{event_in}
use Rattle.acap_dialogue.specs.Saying.{with_said}
use Rattle.acap_dialogue.specs.Session.{after_answer, answer_said, drain_for, drain_at, is_closed, listening, next_at, session_drain, session_next}
use Rattle.acap_dialogue.specs.Talking.{Talking, beginning}
use Rattle.acap_dialogue.specs.declared.next.Next.{Next}
use Rattle.acap_dialogue.specs.declared.next.Next.TheVariants as next
use Rattle.acap_dialogue.specs.declared.stage.Stage.{Stage}
use Rattle.acap_dialogue.specs.declared.stage.Stage.TheVariants as stage
use Rattle.acap_machine.specs.Machine.{Machine}
use Rattle.acap_machine.specs.Runs.{outcome_of}
use Rattle.acap_session.specs.Laws.{asked_by}
use Rattle.acap_session.specs.Live.{told_in, told_with}
use Rattle.acap_session.specs.Places.{SeatSession, place_at, if_open}
use Rattle.acap_session.specs.Turning.{Scene, scene, event_outcome, turn_by, turn_of, drain_of}
use Rattle.acap_session.specs.World as world
use Rattle.acap_session.specs.World.{World, Action, Step, did, ends, open_at, said_before, scene_of, takes, with_scene}
use Rattle.acap_session.proofs.Alone.{did_by, did_is, place_of}
use Rattle.acap_session.proofs.Placing.{placed_there, open_is}
use Rattle.acap_wire.proofs.Occasions.{Occasion}
use Rattle.acap_wire.specs.Seat.{out_at, said_in, sent_at, sent_by, sent_in}
use Rattle.acap_wire.proofs.Speaking.{Speech, Silent, Ready, Spoken, closed_by, drained_said, octets_by, opening_spoken, said_by, tag_at, tag_by, told_by, turn_at, turn_spoken}

-- ---- a turn is what the stage says

pub next_is : (users : List User) (nonce : ℕ) (clock : ℤ) (t : Talking) (s : Stage) → t.stage ≡ s
    → ((next_at users nonce clock s t).0, (next_at users nonce clock s t).1.stage) ≡ turn_at users (listening t nonce clock) t.user s t.held
next_is users nonce clock t stage.Opening e = refl
next_is users nonce clock t stage.Entering e = ap (λ s. (next.More, s)) e
next_is users nonce clock t stage.Ready e = refl
next_is users nonce clock t (stage.Asked tag) e = ap (λ s. (next.More, s)) e
next_is users nonce clock t (stage.Challenged tag challenge) e = refl
next_is users nonce clock t (stage.LoggingIn tag user) e = ap (λ s. (next.More, s)) e
next_is users nonce clock t stage.Draining e = ap (λ s. (next.More, s)) e
next_is users nonce clock t stage.Closed e = ap (λ s. (next.More, s)) e

abbrev pub staged : Next × Talking → Next × Stage
staged x = (x.0, x.1.stage)

next_spoken : (r : Event → Result Reply Fault) (users : List User) (nonce : ℕ) (clock : ℤ) (t : Talking)
    → Spoken (sent_at t.stage t.held) (tag_at t.stage t.held) (staged (session_next users nonce clock t)) r
unfolding session_next
next_spoken r users nonce clock t =
    subst (λ x. Spoken (sent_at t.stage t.held) (tag_at t.stage t.held) x r) (sym (next_is users nonce clock t t.stage refl))
    (turn_spoken r users (listening t nonce clock) t.user t.stage t.held)

begun_spoken : (r : Event → Result Reply Fault) (users : List User) (nonce : ℕ) (clock : ℤ) (host : List ℕ) (user : Option (List ℕ))
    → Spoken None None (staged (session_next users nonce clock (beginning host user))) r
unfolding session_next
begun_spoken r users nonce clock host user = opening_spoken r user

drain_spoken_for : (r : Event → Result Reply Fault) (user : Option (List ℕ)) (t : Talking) → Spoken None None (staged (drain_for user t)) r
drain_spoken_for r None t = Silent refl refl (λ e. refl)
drain_spoken_for r (Some user) t = drained_said (r event.Drain)

drain_spoken_at : (r : Event → Result Reply Fault) (s : Stage) (t : Talking) → Spoken None None (staged (drain_at s t)) r
drain_spoken_at r stage.Opening t = Silent refl refl (λ e. refl)
drain_spoken_at r stage.Entering t = Silent refl refl (λ e. refl)
drain_spoken_at r stage.Ready t = drain_spoken_for r t.user t
drain_spoken_at r (stage.Asked tag) t = Silent refl refl (λ e. refl)
drain_spoken_at r (stage.Challenged tag challenge) t = Silent refl refl (λ e. refl)
drain_spoken_at r (stage.LoggingIn tag user) t = Silent refl refl (λ e. refl)
drain_spoken_at r stage.Draining t = Silent refl refl (λ e. refl)
drain_spoken_at r stage.Closed t = Silent refl refl (λ e. refl)

drain_spoken : (r : Event → Result Reply Fault) (t : Talking) → Spoken None None (staged (session_drain t)) r
unfolding session_drain
drain_spoken r t = drain_spoken_at r t.stage t

-- ---- what a turn leaves

abbrev pub answers_in : Bool → Machine → Occasion → Event → Result Reply Fault
answers_in refused m o e = outcome_of (event_outcome refused m o e)

behind : (out : List ℕ) (n : Next) → with_said out n ≡ out ++ said_by n
behind out next.More = sym (append-nil out)
behind out (next.Say octets) = refl
behind out (next.Ask event) = sym (append-nil out)
behind out (next.Close octets) = refl

record Left (o : Occasion) (refused : Bool) (s : Scene) (x : Next × Talking) : Type 0 where
  out : (turn_by o refused s x).1.out ≡ s.out ++ octets_by (staged x) (answers_in refused s.machine o)
  closed : is_closed (turn_by o refused s x).1.talk.stage ≡ closed_by (staged x) (answers_in refused s.machine o)

left : (o : Occasion) (refused : Bool) (s : Scene) (x : Next × Talking) → Left o refused s x
unfolding after_answer
left o refused s (next.More, t) = record { out = sym (append-nil s.out); closed = refl }
left o refused s (next.Say octets, t) = record { out = refl; closed = refl }
left o refused s (next.Ask e, t) = record { out = behind s.out (answer_said t.stage (answers_in refused s.machine o e)).0; closed = refl }
left o refused s (next.Close octets, t) = record { out = refl; closed = refl }

-- ---- what the machine said

abbrev told_of : (Event → Result Reply Fault) → Option Event → Option (Event × Said)
told_of r asked = option_and_then (λ e. option_and_then (told_with e) (option_map r asked)) asked

told_is : (r : Event → Result Reply Fault) (x : Next × Talking) → told_of r (event_in x) ≡ told_by (staged x) r
told_is r (next.More, t) = refl
told_is r (next.Say octets, t) = refl
told_is r (next.Ask e, t) = refl
told_is r (next.Close octets, t) = refl

-- ---- a step at its seat

abbrev step_on : Occasion → Bool → Action → Step
step_on o refused action = record { occasion = o; refused = refused; action = action }

abbrev told_on : Occasion → Bool → Action → World → Option SeatSession → Option (Event × Said)
told_on o refused action w now = told_of (answers_in refused w.machine o) (asked_by w (step_on o refused action) now)

record SpokenOn (o : Occasion) (refused : Bool) (action : Action) (w : World) (now : Option SeatSession) : Type 0 where
  octets : List ℕ
  closed : Bool
  out_is : out_at (did_by o refused action w now) o.seat ≡ out_at w o.seat ++ octets
  speech : Speech (sent_by action now) (told_on o refused action w now) (tag_by action now) octets closed
  open_then : (p : SeatSession) → open_at (did_by o refused action w now) o.seat ≡ Some p → closed ≡ false

out_there : (w : World) (seat : ℕ) (p : SeatSession) → open_at w seat ≡ Some p → out_at w seat ≡ p.out
out_there w seat p e = ap said_before (open_is (place_at w.places seat) p e)

if_closed : (q p : SeatSession) → if_open (Some q) ≡ Some p → is_closed q.talk.stage ≡ false
if_closed q p e = elim (is_closed q.talk.stage) as (λ b. cond b None (Some q) ≡ Some p → b ≡ false) [
  | true ↦ λ k. absurd cc
  | false ↦ λ k. refl
] e

open_set : (w : World) (seat : ℕ) (s : Scene) (p : SeatSession) → open_at (with_scene w seat s) seat ≡ Some p → is_closed s.talk.stage ≡ false
open_set w seat s p e = if_closed (place_of s) p (ap if_open (sym (placed_there w.places seat (place_of s))) ∙ e)

-- a step in which nothing is said
silent : (o : Occasion) (refused : Bool) (action : Action) (w : World) (now : Option SeatSession) → out_at (did_by o refused action w now) o.seat ≡ out_at w o.seat
    → sent_by action now ≡ None → told_on o refused action w now ≡ None → SpokenOn o refused action w now
silent o refused action w now same sent told = record {
  octets = [];
  closed = false;
  out_is = same ∙ sym (append-nil (out_at w o.seat));
  speech = Silent refl told (λ e. sent);
  open_then = λ p e. refl;
}

out_set : (w : World) (seat : ℕ) (s : Scene) → out_at (with_scene w seat s) seat ≡ s.out
out_set w seat s = ap said_before (placed_there w.places seat (place_of s))

-- a turn, or a drain
turned : (o : Occasion) (refused : Bool) (action : Action) (w : World) (now : Option SeatSession) (s : Scene) (x : Next × Talking)
    → did_by o refused action w now ≡ with_scene w o.seat (turn_by o refused s x).1 → s.machine ≡ w.machine → s.out ≡ out_at w o.seat
    → told_on o refused action w now ≡ told_by (staged x) (answers_in refused w.machine o)
    → Spoken (sent_by action now) (tag_by action now) (staged x) (answers_in refused w.machine o) → SpokenOn o refused action w now
turned o refused action w now s x made machine out told spoken =
    let leaves = left o refused s x in
    let r = answers_in refused w.machine o in
    let answers : (λ e. answers_in refused s.machine o e) ≡ r = ap (λ m. answers_in refused m o) machine in
    record {
      octets = octets_by (staged x) r;
      closed = closed_by (staged x) r;
      out_is = ap (λ (v : World). out_at v o.seat) made ∙ out_set w o.seat (turn_by o refused s x).1 ∙ leaves.out ∙ (λ i. out i ++ octets_by (staged x) (answers i));
      speech = subst (λ t. Speech (sent_by action now) t (tag_by action now) (octets_by (staged x) r) (closed_by (staged x) r)) (sym told) spoken;
      open_then = λ p e.
          ap (closed_by (staged x)) (sym answers) ∙ sym leaves.closed
          ∙ open_set w o.seat (turn_by o refused s x).1 p (ap (λ (v : World). open_at v o.seat) (sym made) ∙ e);
    }

spoken_on : (o : Occasion) (refused : Bool) (action : Action) (w : World) (now : Option SeatSession) → open_at w o.seat ≡ now → SpokenOn o refused action w now
unfolding turn_of drain_of
spoken_on o refused (world.Open user) w None e =
    let s = scene w.machine (beginning w.host user) (said_before (place_at w.places o.seat)) in
    let x = session_next w.users o.nonce o.clock (beginning w.host user) in
    turned o refused (world.Open user) w None s x refl refl refl (told_is (answers_in refused w.machine o) x)
    (begun_spoken (answers_in refused w.machine o) w.users o.nonce o.clock w.host user)
spoken_on o refused (world.Open user) w (Some p) e = silent o refused (world.Open user) w (Some p) refl refl refl
spoken_on o refused (world.Piece octets) w None e = silent o refused (world.Piece octets) w None refl refl refl
spoken_on o refused (world.Piece octets) w (Some p) e =
    silent o refused (world.Piece octets) w (Some p) (out_set w o.seat (takes octets (scene_of w p)) ∙ sym (out_there w o.seat p e)) refl refl
spoken_on o refused world.Turn w None e = silent o refused world.Turn w None refl refl refl
spoken_on o refused world.Turn w (Some p) e =
    let x = session_next w.users o.nonce o.clock p.talk in
    turned o refused world.Turn w (Some p) (scene_of w p) x refl refl (sym (out_there w o.seat p e)) (told_is (answers_in refused w.machine o) x)
    (next_spoken (answers_in refused w.machine o) w.users o.nonce o.clock p.talk)
spoken_on o refused world.Drain w None e = silent o refused world.Drain w None refl refl refl
spoken_on o refused world.Drain w (Some p) e =
    let x = session_drain p.talk in
    turned o refused world.Drain w (Some p) (scene_of w p) x refl refl (sym (out_there w o.seat p e)) (told_is (answers_in refused w.machine o) x)
    (drain_spoken (answers_in refused w.machine o) p.talk)
spoken_on o refused world.Leave w None e = silent o refused world.Leave w None refl refl refl
spoken_on o refused world.Leave w (Some p) e =
    silent o refused world.Leave w (Some p) (out_set w o.seat (ends o (scene_of w p)) ∙ sym (out_there w o.seat p e)) refl refl

-- ---- a step of a world

pub record IsSpoken (w : World) (x : Step) : Type 0 where
  pub closed : Bool
  pub speech : Speech (sent_in w x) (told_in w x) (tag_by x.action (open_at w x.occasion.seat)) (said_in w x) closed
  pub open_then : (p : SeatSession) → open_at (did x.occasion x.refused x.action w) x.occasion.seat ≡ Some p → closed ≡ false

pub spoken : (w : World) (x : Step) → IsSpoken w x
spoken w x =
    let now = open_at w x.occasion.seat in
    let made = spoken_on x.occasion x.refused x.action w now refl in
    let is = did_is x.occasion x.refused x.action w in
    let octets : said_in w x ≡ made.octets =
    ap (λ (v : World). drop (length (out_at w x.occasion.seat)) (out_at v x.occasion.seat)) is
    ∙ ap (drop (length (out_at w x.occasion.seat))) made.out_is
    ∙ drop-append_seam (out_at w x.occasion.seat) made.octets in
    record {
      closed = made.closed;
      speech = subst (λ os. Speech (sent_in w x) (told_in w x) (tag_by x.action now) os made.closed) (sym octets) made.speech;
      open_then = λ p e. made.open_then p (ap (λ (v : World). open_at v x.occasion.seat) (sym is) ∙ e);
    }
