-- A step of which the client that is followed hears nothing.
use Rattle.std.proofs.Common.{◌≡◌, ℕ, ◌==◌, Bool, true, false, cond, ◌||◌, is_ok, List, Option, Some, None, Ok, refl, sym, ap, ◌∙◌}
use Rattle.std.specs.Option.{is_some}
use Rattle.acap_commands.specs.declared.event.Event.TheVariants as event
use Rattle.acap_dialogue.specs.Hearing.{opening}
use Rattle.acap_dialogue.specs.Session.{after_answer, has_seat, session_next}
use Rattle.acap_dialogue.specs.Talking.{Talking, beginning}
use Rattle.acap_dialogue.specs.declared.stage.Stage.TheVariants as stage
use Rattle.acap_entries.specs.Names.{is_user_name}
use Rattle.acap_examples.specs.Followed.{HasGone}
use Rattle.acap_machine.specs.Client.{Client}
use Rattle.acap_machine.specs.Machine.{Machine, user_at}
use Rattle.acap_machine.specs.Runs.{machine_after, outcome_of}
use Rattle.acap_machine.specs.Stepping.{enter_answer}
use Rattle.acap_session.proofs.ScriptActing.{pushes}
use Rattle.acap_session.specs.Live.{client_told, is_named_action, step_on, told_at, told_in, told_with, whole_told}
use Rattle.acap_session.specs.Places.{SeatSession, place_at}
use Rattle.acap_session.specs.Turning.{Scene, turn_and_scene, turn_of}
use Rattle.acap_session.specs.World as world
use Rattle.acap_session.specs.World.{Feeds, Opens, Step, World, did, open_at, opened_at, said_before, with_scene}
use Rattle.acap_session.specs.declared.occasion.Occasion.{Occasion}

same_either : {A : Type 0} (b : Bool) (x y : A) → x ≡ y → cond b x y ≡ y
same_either true x y e = e
same_either false x y e = refl

unheard : (seat : ℕ) (name : List ℕ) (x : Step) (old new : World) (held : Client) → new ≡ did x.occasion x.refused x.action old → client_told name (told_in old x) held ≡ held → whole_told name (told_in old x) (is_some held) ≡ is_some held → is_named_action x.action ≡ true
    → HasGone seat name x false old held new held
unheard seat name x old new held left same whole named = record {
  left = left;
  held_is = sym (same_either (x.occasion.seat == seat) _ held same);
  whole = sym (same_either (x.occasion.seat == seat) _ (is_some held) whole);
  named = named;
  tells = λ k. absurd cc;
  live = λ k. absurd cc;
}

-- ---- a session opens, and its user enters or doesn't

entry : (user : List ℕ) (m : Machine) (seat : ℕ) (now : Option (List ℕ)) (name : List ℕ) (held : Client) (whole : Bool) → let told = told_with (event.Enter user) (outcome_of (enter_answer m seat user now)) in (client_told name told held ≡ held) × (whole_told name told whole ≡ whole)
entry user m seat None name held whole = (refl, refl)
entry user m seat (Some other) name held whole = (refl, refl)

opening_told : (w : World) (o : Occasion) (user name : List ℕ) (held : Client) (whole : Bool) (now : Option SeatSession) → now ≡ None → let told = told_at w (step_on o (world.Open (Some user))) now in (client_told name told held ≡ held) × (whole_told name told whole ≡ whole)
unfolding session_next opening
opening_told w o user name held whole None e = entry user w.machine o.seat (user_at w.machine o.seat) name held whole
opening_told w o user name held whole (Some p) e = absurd cc

-- the nonce makes no difference
entered : (o : Occasion) (nonce : ℕ) (m : Machine) (out host user : List ℕ) (now : Option (List ℕ)) → let t : Talking = record (beginning host (Some user)) { stage = stage.Entering } in let r = enter_answer m o.seat user now in
    turn_and_scene (record o { nonce = nonce }) (has_seat t || is_ok r) (machine_after m r) out (after_answer t (outcome_of r)) ≡ turn_and_scene o (has_seat t || is_ok r) (machine_after m r) out (after_answer t (outcome_of r))
unfolding after_answer
entered o nonce m out host user None = refl
entered o nonce m out host user (Some other) = refl

seconds : {T : Type 0} (f : Scene → World) (x y : T × Scene) → x ≡ y → f x.1 ≡ f y.1
seconds f x y e = ap (λ p. f p.1) e

at_any_nonce : (w : World) (o : Occasion) (nonce : ℕ) (user : List ℕ) (now : Option SeatSession) → opened_at w (record o { nonce = nonce }) false (Some user) now ≡ opened_at w o false (Some user) now
unfolding turn_of session_next opening
at_any_nonce w o nonce user None = seconds (with_scene w o.seat) _ _ (entered o nonce w.machine (said_before (place_at w.places o.seat)) w.host user (user_at w.machine o.seat))
at_any_nonce w o nonce user (Some p) = refl

pub opened : (seat : ℕ) (name : List ℕ) (o : Occasion) (user : List ℕ) (old new : World) (held : Client) → Opens (record o { nonce = 0 }) (Some user) old new (Ok tt) → is_user_name user ≡ true → HasGone seat name (step_on o (world.Open (Some user))) false old held new held
unfolding did
opened seat name o user old new held k named =
    let told = opening_told old o user name held (is_some held) (open_at old o.seat) k.0 in
    unheard seat name (step_on o (world.Open (Some user))) old new held (k.1 ∙ at_any_nonce old o 0 user (open_at old o.seat)) told.0 told.1 named

-- ---- octets come

piece_told : (w : World) (o : Occasion) (octets : List ℕ) (now : Option SeatSession) → told_at w (step_on o (world.Piece octets)) now ≡ None
piece_told w o octets None = refl
piece_told w o octets (Some p) = refl

pub pushed : (seat : ℕ) (name : List ℕ) (o : Occasion) (octets : List ℕ) (n : ℕ) (old new : World) (held : Client) → Feeds o.seat octets old new (Ok n) → HasGone seat name (step_on o (world.Piece octets)) false old held new held
pushed seat name o octets n old new held f =
    let none = piece_told old o octets (open_at old o.seat) in
    unheard seat name (step_on o (world.Piece octets)) old new held (pushes old new o octets n f).1 (ap (λ t. client_told name t held) none) (ap (λ t. whole_told name t (is_some held)) none) refl
