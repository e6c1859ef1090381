-- Who has which seat after the steps of a world, and what its sessions have said.
use Rattle.std.proofs.Common.{◌≡◌, ◌⊎◌, inl, inr, ℕ, ◌==◌, ◌||◌, Bool, true, false, not, if◌then◌else◌, List, [], ◌∷◌, ◌++◌, Option, Some, None, refl, sym, ap, subst, ◌∙◌, append_assoc}
use Rattle.std.specs.Prelude.{flat_map, option_map, is_some, IsSome}
use Rattle.std.proofs.lemmas.Bool.{and_parts, eqb-true, eqb-false}
use Rattle.std.proofs.lemmas.Grind.{flat_map-append}
use Rattle.std.proofs.lemmas.List.{append-nil, map-append}
use Rattle.acap_lexer.specs.declared.fault.LexFault.{LexFault}
use Rattle.acap_login.specs.Login.{User}
use Rattle.acap_grammar.specs.Replies.{octets_of}
use Rattle.acap_machine.proofs.SeatLemmas.{nobody_at}
use Rattle.acap_machine.specs.Machine.{Machine, user_at}
use Rattle.acap_machine.specs.Runs.{outcome_of}
use Rattle.acap_rights.specs.declared.realm.Realm.{Realm}
use Rattle.acap_session.specs.Completing.{Call, called_at, called_by, all_called, completed_by, going_on, IsEnd, IsLeft, AreCompleted, goes_on, all_go_on, HasCompleted, CompletionLaw}
use Rattle.acap_session.specs.Laws.{reply_of}
use Rattle.acap_dialogue.specs.Running.{event_in}
use Rattle.acap_session.specs.Places.{SeatSession, place_at, with_place, if_open}
use Rattle.acap_session.specs.Script.{Listens}
use Rattle.acap_session.specs.Seating.{SeatingLaw, occupant_by}
use Rattle.acap_dialogue.specs.Session.{has_seat, has_seat_at, is_closed, is_hearing, session_next, session_drain}
use Rattle.acap_dialogue.specs.Talking.{Talking, beginning}
use Rattle.acap_session.specs.Turning.{Scene, scene, event_outcome, turn_of, drain_of}
use Rattle.acap_session.specs.World as world
use Rattle.acap_session.specs.World.{World, Action, Step, at_open, did, ends, new_world, open_at, world_after, said_before, scene_of, takes, with_scene}
use Rattle.acap_dialogue.specs.declared.next.Next.{Next}
use Rattle.acap_dialogue.specs.declared.next.Next.TheVariants as next
use Rattle.acap_session.specs.declared.occasion.Occasion.{Occasion}
use Rattle.acap_dialogue.specs.declared.stage.Stage.{Stage}
use Rattle.acap_dialogue.specs.declared.stage.Stage.TheVariants as stage
use Rattle.acap_session.proofs.Alone.{did_by, did_is, others_stay, place_of, placed_other}
use Rattle.acap_session.proofs.Going.{At, Goes, next_goes, drain_goes, opening_goes, silent}
use Rattle.acap_session.proofs.Opening.{first_stays}
use Rattle.acap_session.proofs.Placing.{open_some, placed_there}
use Rattle.acap_session.proofs.Seating.{SameElse, Made, IsPlaced, asks_placed, left_else, left_empty, made, made_else, unseated}

-- ---- how all sessions of a world stand

abbrev pub AtPlace : Option SeatSession → Option (List ℕ) → Type 0
AtPlace None has = has ≡ None
AtPlace (Some p) has = At p.talk.stage p.talk.user has

abbrev pub AllSeated : World → Type 0
AllSeated w = (q : ℕ) → AtPlace (place_at w.places q) (user_at w.machine q)

free_at : (x : Stage) (p : SeatSession) (user : Option (List ℕ)) (has : Option (List ℕ)) → (if is_closed x then None else Some p) ≡ None → At x user has → has ≡ None
free_at stage.Closed p user has e a = a
free_at stage.Ready p user has e a = absurd cc
free_at (stage.Challenged tag challenge) p user has e a = a.1
free_at x p user has e a = absurd a

free : (x : Option SeatSession) (has : Option (List ℕ)) → if_open x ≡ None → AtPlace x has → has ≡ None
free None has e a = a
free (Some p) has e a = free_at p.talk.stage p p.talk.user has e a

opened_by : (y p : SeatSession) (b : Bool) → is_closed y.talk.stage ≡ b → (if b then None else Some y) ≡ Some p → (Some y ≡ Some p) × (p.talk.stage ≡ stage.Closed → ⊥)
opened_by y p true c e = absurd cc
opened_by y p false c e = (e, λ k. let same : y ≡ p = cc in let shut : false ≡ true = sym c ∙ ap (λ (z : SeatSession). is_closed z.talk.stage) same ∙ ap is_closed k in cc)

pub opened : (x : Option SeatSession) (p : SeatSession) → if_open x ≡ Some p → (x ≡ Some p) × (p.talk.stage ≡ stage.Closed → ⊥)
opened None p e = absurd cc
opened (Some y) p e = opened_by y p (is_closed y.talk.stage) refl e

at_of : (w : World) (k : ℕ) (p : SeatSession) → AllSeated w → open_at w k ≡ Some p → At p.talk.stage p.talk.user (user_at w.machine k)
at_of w k p a e = subst (λ x. AtPlace x (user_at w.machine k)) (opened (place_at w.places k) p e).0 (a k)

-- ---- turns, drains and openings

turned : (users : List User) (o : Occasion) (refused : Bool) (s : Scene) → At s.talk.stage s.talk.user (user_at s.machine o.seat) → (s.talk.stage ≡ stage.Closed → ⊥) →
    Made (going_on s.talk.stage ++ called_at s.talk.stage s.talk.held) o.seat s.out (turn_of users o refused s).1
unfolding turn_of session_next
turned users o refused s a c =
    let x = session_next users o.nonce o.clock s.talk in
    made _ o refused s x.0 x.1 (unseated s.talk.stage s.talk.user _ a) (next_goes users o.nonce o.clock s.talk.stage s.talk _ a c)

turned_else : (users : List User) (o : Occasion) (refused : Bool) (s : Scene) → SameElse o.seat s.machine (turn_of users o refused s).1.machine
unfolding turn_of
turned_else users o refused s q apart = let x = session_next users o.nonce o.clock s.talk in made_else o refused s x.0 x.1 q apart

drained : (o : Occasion) (refused : Bool) (s : Scene) → At s.talk.stage s.talk.user (user_at s.machine o.seat) → (s.talk.stage ≡ stage.Closed → ⊥) →
    Made (going_on s.talk.stage) o.seat s.out (drain_of o refused s).1
unfolding drain_of session_drain
drained o refused s a c =
    let x = session_drain s.talk in
    made _ o refused s x.0 x.1 (unseated s.talk.stage s.talk.user _ a) (drain_goes s.talk.stage s.talk _ refl a c)

drained_else : (o : Occasion) (refused : Bool) (s : Scene) → SameElse o.seat s.machine (drain_of o refused s).1.machine
unfolding drain_of
drained_else o refused s q apart = let x = session_drain s.talk in made_else o refused s x.0 x.1 q apart

begins : (users : List User) (o : Occasion) (refused : Bool) (m : Machine) (host : List ℕ) (user : Option (List ℕ)) (out : List ℕ) → user_at m o.seat ≡ None →
    Made [] o.seat out (turn_of users o refused (scene m (beginning host user) out)).1
unfolding turn_of session_next
begins users o refused m host user out e =
    let x = session_next users o.nonce o.clock (beginning host user) in
    made [] o refused (scene m (beginning host user) out) x.0 x.1 (λ f. e) (opening_goes user _ None e)

-- ---- one step

record Sets (w : World) (k : ℕ) (v : World) : Type 0 where
  after : Scene
  is : v ≡ with_scene w k after
  at : At after.talk.stage after.talk.user (user_at after.machine k)
  apart : SameElse k w.machine after.machine

abbrev Effect : World → ℕ → World → Type 0
Effect w k v = (v ≡ w) ⊎ Sets w k v

effect_by : (o : Occasion) (refused : Bool) (action : Action) (w : World) (now : Option SeatSession) → open_at w o.seat ≡ now → AllSeated w → Effect w o.seat (did_by o refused action w now)
effect_by o refused (world.Open user) w None e a =
    let s = scene w.machine (beginning w.host user) (said_before (place_at w.places o.seat)) in
    let m = begins w.users o refused w.machine w.host user s.out (free (place_at w.places o.seat) _ e (a o.seat)) in
    inr (record { after = (turn_of w.users o refused s).1; is = refl; at = m.at; apart = turned_else w.users o refused s })
effect_by o refused (world.Piece octets) w (Some p) e a =
    inr (record { after = takes octets (scene_of w p); is = refl; at = at_of w o.seat p a e; apart = λ q f. refl })
effect_by o refused world.Turn w (Some p) e a =
    let m = turned w.users o refused (scene_of w p) (at_of w o.seat p a e) (opened (place_at w.places o.seat) p e).1 in
    inr (record { after = (turn_of w.users o refused (scene_of w p)).1; is = refl; at = m.at; apart = turned_else w.users o refused (scene_of w p) })
effect_by o refused world.Drain w (Some p) e a =
    let m = drained o refused (scene_of w p) (at_of w o.seat p a e) (opened (place_at w.places o.seat) p e).1 in
    inr (record { after = (drain_of o refused (scene_of w p)).1; is = refl; at = m.at; apart = drained_else o refused (scene_of w p) })
effect_by o refused world.Leave w (Some p) e a =
    inr (record {
      after = ends o (scene_of w p);
      is = refl;
      at = left_empty (has_seat p.talk) o w.machine (unseated p.talk.stage p.talk.user _ (at_of w o.seat p a e));
      apart = left_else (has_seat p.talk) o w.machine;
    })
effect_by o refused action w now e a = inl refl

set_at : (w : World) (k q : ℕ) (s : Scene) (b : Bool) → (q == k) ≡ b → At s.talk.stage s.talk.user (user_at s.machine k) → SameElse k w.machine s.machine → AllSeated w →
    AtPlace (place_at (with_place w.places k (place_of s)) q) (user_at s.machine q)
set_at w k q s true e at apart a =
    subst (λ j. AtPlace (place_at (with_place w.places k (place_of s)) j) (user_at s.machine j)) (sym (eqb-true q k e))
    (subst (λ x. AtPlace x (user_at s.machine k)) (sym (placed_there w.places k (place_of s))) at)
set_at w k q s false e at apart a =
    subst (λ x. AtPlace x (user_at s.machine q)) (sym (placed_other w.places k q (place_of s) (eqb-false q k e)))
    (subst (λ h. AtPlace (place_at w.places q) h) (sym (apart q e)) (a q))

after_effect : (w v : World) (k : ℕ) → Effect w k v → AllSeated w → AllSeated v
after_effect w v k (inl e) a = subst AllSeated (sym e) a
after_effect w v k (inr x) a = subst AllSeated (sym x.is) (λ q. set_at w k q x.after (q == k) refl x.at x.apart a)

step_seated : (x : Step) (w : World) → AllSeated w → AllSeated (did x.occasion x.refused x.action w)
step_seated x w a =
    subst AllSeated (sym (did_is x.occasion x.refused x.action w))
    (after_effect w _ x.occasion.seat (effect_by x.occasion x.refused x.action w (open_at w x.occasion.seat) refl a) a)

pub run_seated : (steps : List Step) (w : World) → AllSeated w → AllSeated (world_after steps w)
run_seated [] w a = a
run_seated (x ∷ steps) w a = run_seated steps (did x.occasion x.refused x.action w) (step_seated x w a)

pub new_seated : (realm : Realm) (users : List User) (host : List ℕ) → AllSeated (new_world realm users host)
new_seated realm users host q = nobody_at realm q

-- ---- open sessions hear

hearing_at : (x : Stage) (user : Option (List ℕ)) (has : Option (List ℕ)) → At x user has → (x ≡ stage.Closed → ⊥) → is_hearing x ≡ true
hearing_at stage.Ready user has a o = refl
hearing_at (stage.Challenged tag challenge) user has a o = refl
hearing_at stage.Closed user has a o = absurd (o refl)
hearing_at x user has a o = absurd a

hearing_as : (x : Option SeatSession) (t : Talking) (has : Option (List ℕ)) → option_map (λ (y : SeatSession). y.talk) x ≡ Some t → AtPlace x has → (t.stage ≡ stage.Closed → ⊥) → is_hearing t.stage ≡ true
hearing_as None t has e a o = absurd cc
hearing_as (Some q) t has e a o = let same : q.talk ≡ t = cc in hearing_at t.stage t.user has (subst (λ (u : Talking). At u.stage u.user has) same a) o

-- also where some of what was said is taken
pub listens_as : (seat : ℕ) (w v : World) → AllSeated w → option_map (λ (x : SeatSession). x.talk) (place_at w.places seat) ≡ option_map (λ (x : SeatSession). x.talk) (place_at v.places seat) → Listens seat v
listens_as seat w v a same p e =
    let there = opened (place_at v.places seat) p e in
    hearing_as (place_at w.places seat) p.talk (user_at w.machine seat) (same ∙ ap (λ x. option_map (λ (y : SeatSession). y.talk) x) there.0) (a seat) there.1

-- ---- the law of seats

occupant_at : (x : Stage) (user : Option (List ℕ)) (has : Option (List ℕ)) → At x user has → has ≡ (if has_seat_at x user then user else None)
occupant_at stage.Ready None has a = a
occupant_at stage.Ready (Some user) has a = a
occupant_at (stage.Challenged tag challenge) None has a = a.1
occupant_at (stage.Challenged tag challenge) (Some user) has a = absurd (let e = a.0 in cc)
occupant_at stage.Closed user has a = a
occupant_at x user has a = absurd a

occupant_is : (x : Option SeatSession) (has : Option (List ℕ)) → AtPlace x has → has ≡ occupant_by x
occupant_is None has a = a
occupant_is (Some p) has a = occupant_at p.talk.stage p.talk.user has a

goes_placed : (b : List Call) (user : Option (List ℕ)) (fatal : Option LexFault) (refused : Bool) (m : Machine) (o : Occasion) (n : Next) (t : Talking) →
    Goes b user (user_at m o.seat) fatal n t.stage → IsPlaced (option_map (λ event. outcome_of (event_outcome refused m o event)) (event_in (n, t)))
goes_placed b user fatal refused m o (next.Ask e) t g = asks_placed b user refused m o e t.stage g
goes_placed b user fatal refused m o n t g = tt

reply_by : (o : Occasion) (refused : Bool) (action : Action) (w : World) (now : Option SeatSession) → open_at w o.seat ≡ now → AllSeated w → IsPlaced (reply_of w (record { occasion = o; refused = refused; action = action }) now)
unfolding session_next session_drain
reply_by o refused (world.Open user) w None e a =
    let x = session_next w.users o.nonce o.clock (beginning w.host user) in
    goes_placed _ _ _ refused w.machine o x.0 x.1 (opening_goes user _ None (free (place_at w.places o.seat) _ e (a o.seat)))
reply_by o refused (world.Piece octets) w None e a = tt
reply_by o refused world.Turn w (Some p) e a =
    let x = session_next w.users o.nonce o.clock p.talk in
    goes_placed _ _ _ refused w.machine o x.0 x.1 (next_goes w.users o.nonce o.clock p.talk.stage p.talk _ (at_of w o.seat p a e) (opened (place_at w.places o.seat) p e).1)
reply_by o refused world.Drain w (Some p) e a =
    let x = session_drain p.talk in
    goes_placed _ _ _ refused w.machine o x.0 x.1 (drain_goes p.talk.stage p.talk _ refl (at_of w o.seat p a e) (opened (place_at w.places o.seat) p e).1)
reply_by o refused world.Leave w None e a = tt
reply_by o refused action w now e a = tt

replied : (realm : Realm) (users : List User) (host : List ℕ) (steps : List Step) (x : Step) → let w = world_after steps (new_world realm users host) in IsPlaced (reply_of w x (open_at w x.occasion.seat))
replied realm users host steps x =
    let w = world_after steps (new_world realm users host) in
    reply_by x.occasion x.refused x.action w (open_at w x.occasion.seat) refl (run_seated steps (new_world realm users host) (new_seated realm users host))

opened_there : (w : World) (k : ℕ) (s : Scene) → is_closed s.talk.stage ≡ false → IsSome (open_at (with_scene w k s) k)
opened_there w k s e = ap (λ x. is_some (if_open x)) (placed_there w.places k (place_of s)) ∙ open_some (place_of s) ∙ ap not e

opens : (o : Occasion) (user : Option (List ℕ)) (w : World) → AllSeated w → open_at w o.seat ≡ None → IsSome (open_at (did o false (world.Open user) w) o.seat)
opens o user w a e =
    let s = scene w.machine (beginning w.host user) (said_before (place_at w.places o.seat)) in
    let made = did_is o false (world.Open user) w ∙ ap (did_by o false (world.Open user) w) e in
    subst (λ v. IsSome (open_at v o.seat)) (sym made)
    (opened_there w o.seat (turn_of w.users o false s).1 (first_stays w.users o s refl (free (place_at w.places o.seat) _ e (a o.seat))))

pub seating : SeatingLaw
seating = record {
  occupied = λ realm users host steps seat. occupant_is _ _ (run_seated steps (new_world realm users host) (new_seated realm users host) seat);
  never_empty = λ realm users host steps x e. subst IsPlaced e (replied realm users host steps x);
  never_taken = λ realm users host steps x e. subst IsPlaced e (replied realm users host steps x);
  opens = λ realm users host steps o user e. opens o user (world_after steps (new_world realm users host)) (run_seated steps (new_world realm users host) (new_seated realm users host)) e;
}

-- ---- the law of completions

not_over : (fatal : Option LexFault) (x : Stage) (left : List Call) → (x ≡ stage.Closed → ⊥) → left ≡ going_on x → IsLeft fatal x left
not_over fatal stage.Closed left o e = absurd (o refl)
not_over fatal x left o e = e

left_of : (fatal : Option LexFault) (x : Stage) (left : List Call) → is_closed x ≡ false → IsLeft fatal x left → left ≡ going_on x
left_of fatal stage.Closed left o e = cc
left_of fatal x left o e = e

end_of : (fatal : Option LexFault) (x : Stage) (end : List ℕ) → is_closed x ≡ false → IsEnd fatal x end → end ≡ []
end_of fatal stage.Closed end o e = cc
end_of fatal x end o e = e

-- what stands at a seat after a step of its session that goes on, and what was said to the commands in hand
record Acts (b : List Call) (k : ℕ) (p : SeatSession) (v : World) : Type 0 where
  after : Scene
  stands : place_at v.places k ≡ Some (place_of after)
  made : Made b k p.out after

sets : (b : List Call) (k : ℕ) (p : SeatSession) (w v : World) (s : Scene) → v ≡ with_scene w k s → Made b k p.out s → Acts b k p v
sets b k p w v s e m = record { after = s; stands = ap (λ (u : World). place_at u.places k) e ∙ placed_there w.places k (place_of s); made = m }

acts_by : (o : Occasion) (refused : Bool) (action : Action) (w : World) (p : SeatSession) (now : Option SeatSession) → open_at w o.seat ≡ Some p → now ≡ Some p → AllSeated w → goes_on action ≡ true →
    Acts (going_on p.talk.stage ++ called_by action now) o.seat p (did_by o refused action w now)
acts_by o refused action w p None e n a g = absurd cc
acts_by o refused (world.Open user) w p (Some y) e n a g = absurd cc
acts_by o refused (world.Piece octets) w p (Some y) e n a g =
    let same : p ≡ y = cc in
    subst (λ z. Acts (going_on p.talk.stage ++ []) o.seat p (did_by o refused (world.Piece octets) w (Some z))) same
    (sets _ o.seat p w _ (takes octets (scene_of w p)) refl (record {
      at = at_of w o.seat p a e;
      said = [];
      out_is = sym (append-nil p.out);
      completed = silent _ p.talk.held.fatal p.talk.stage (not_over p.talk.held.fatal p.talk.stage _ (opened (place_at w.places o.seat) p e).1 (append-nil (going_on p.talk.stage)));
    }))
acts_by o refused world.Turn w p (Some y) e n a g =
    let same : p ≡ y = cc in
    subst (λ z. Acts (going_on p.talk.stage ++ called_by world.Turn (Some z)) o.seat p (did_by o refused world.Turn w (Some z))) same
    (sets _ o.seat p w _ (turn_of w.users o refused (scene_of w p)).1 refl (turned w.users o refused (scene_of w p) (at_of w o.seat p a e) (opened (place_at w.places o.seat) p e).1))
acts_by o refused world.Drain w p (Some y) e n a g =
    let same : p ≡ y = cc in
    subst (λ z. Acts (going_on p.talk.stage ++ []) o.seat p (did_by o refused world.Drain w (Some z))) same
    (sets _ o.seat p w _ (drain_of o refused (scene_of w p)).1 refl
    (subst (λ b. Made b o.seat p.out (drain_of o refused (scene_of w p)).1) (sym (append-nil (going_on p.talk.stage)))
    (drained o refused (scene_of w p) (at_of w o.seat p a e) (opened (place_at w.places o.seat) p e).1)))
acts_by o refused world.Leave w p (Some y) e n a g = absurd cc

acts : (x : Step) (w : World) (p : SeatSession) → open_at w x.occasion.seat ≡ Some p → AllSeated w → goes_on x.action ≡ true →
    Acts (going_on p.talk.stage ++ called_by x.action (open_at w x.occasion.seat)) x.occasion.seat p (did x.occasion x.refused x.action w)
acts x w p e a g =
    subst (λ v. Acts (going_on p.talk.stage ++ called_by x.action (open_at w x.occasion.seat)) x.occasion.seat p v) (sym (did_is x.occasion x.refused x.action w))
    (acts_by x.occasion x.refused x.action w p (open_at w x.occasion.seat) e e a g)

-- ---- a session that is closed stays so

shut : (p : SeatSession) → p.talk.stage ≡ stage.Closed → if_open (Some p) ≡ None
shut p e = ap (λ x. if is_closed x then None else Some p) e

none_called : (action : Action) (now : Option SeatSession) → now ≡ None → called_by action now ≡ []
none_called (world.Open user) None e = refl
none_called action (Some p) e = absurd cc
none_called action None e = refl

stays_by : (o : Occasion) (refused : Bool) (action : Action) (w : World) (now : Option SeatSession) → now ≡ None → goes_on action ≡ true → did_by o refused action w now ≡ w
stays_by o refused (world.Open user) w now e g = absurd cc
stays_by o refused (world.Piece octets) w now e g = ap (λ n. at_open w o.seat (takes octets) n) e
stays_by o refused world.Turn w now e g = ap (λ n. at_open w o.seat (λ s. (turn_of w.users o refused s).1) n) e
stays_by o refused world.Drain w now e g = ap (λ n. at_open w o.seat (λ s. (drain_of o refused s).1) n) e
stays_by o refused world.Leave w now e g = absurd cc

-- at another seat, or at this one where it is closed
closed_step : (seat : ℕ) (x : Step) (w : World) (p : SeatSession) (b : Bool) → (x.occasion.seat == seat) ≡ b → place_at w.places seat ≡ Some p → p.talk.stage ≡ stage.Closed → (not b || goes_on x.action) ≡ true →
    ((if b then called_by x.action (open_at w seat) else []) ≡ []) × (place_at (did x.occasion x.refused x.action w).places seat ≡ Some p)
closed_step seat x w p true e s c g =
    let k = eqb-true x.occasion.seat seat e in
    let none : open_at w seat ≡ None = ap if_open s ∙ shut p c in
    let there : open_at w x.occasion.seat ≡ None = ap (open_at w) k ∙ none in (
      none_called x.action (open_at w seat) none,
      ap (λ (v : World). place_at v.places seat) (did_is x.occasion x.refused x.action w ∙ stays_by x.occasion x.refused x.action w (open_at w x.occasion.seat) there g) ∙ s,
    )
closed_step seat x w p false e s c g = (refl, (others_stay x w).0 seat (λ f. eqb-false x.occasion.seat seat e (sym f)) ∙ s)

closed_run : (seat : ℕ) (steps : List Step) (w : World) (p : SeatSession) → place_at w.places seat ≡ Some p → p.talk.stage ≡ stage.Closed → all_go_on seat steps ≡ true →
    (all_called seat steps w ≡ []) × (place_at (world_after steps w).places seat ≡ Some p)
closed_run seat [] w p s c g = (refl, s)
closed_run seat (x ∷ steps) w p s c g =
    let parts = and_parts (not (x.occasion.seat == seat) || goes_on x.action) (all_go_on seat steps) g in
    let one = closed_step seat x w p (x.occasion.seat == seat) refl s c parts.0 in
    let rest = closed_run seat steps (did x.occasion x.refused x.action w) p one.1 c parts.1 in
    ((λ i. one.0 i ++ rest.0 i), rest.1)

pub closed_is : (x : Stage) → is_closed x ≡ true → x ≡ stage.Closed
closed_is stage.Closed e = refl
closed_is x e = cc

-- ---- what is said one after the other

joined : (b more : List Call) (p : SeatSession) (mid : Scene) (final : Option SeatSession) (k : ℕ) (m : Made b k p.out mid) → m.completed.left ≡ going_on mid.talk.stage → m.completed.end ≡ [] → HasCompleted (going_on mid.talk.stage ++ more) (place_of mid) final → HasCompleted (b ++ more) p final
joined b more p mid final k m e f r =
    let one = m.completed in
    let two = r.made in
    record {
      now = r.now;
      said = m.said ++ r.said;
      stands = r.stands;
      out_is = r.out_is ∙ ap (λ xs. xs ++ r.said) m.out_is ∙ append_assoc p.out m.said r.said;
      made = record {
        replies = one.replies ++ two.replies;
        done = one.done ++ two.done;
        left = two.left;
        end = two.end;
        said_is = (λ i. one.said_is i ++ two.said_is i)
            ∙ ap (λ xs. (flat_map octets_of one.replies ++ xs) ++ (flat_map octets_of two.replies ++ two.end)) f
            ∙ ap (λ xs. xs ++ (flat_map octets_of two.replies ++ two.end)) (append-nil (flat_map octets_of one.replies))
            ∙ sym (append_assoc (flat_map octets_of one.replies) (flat_map octets_of two.replies) two.end)
            ∙ ap (λ xs. xs ++ two.end) (sym (flat_map-append octets_of one.replies two.replies));
        all_are = ap (λ xs. xs ++ more) one.all_are ∙ append_assoc one.done one.left more
            ∙ ap (λ xs. one.done ++ (xs ++ more)) e ∙ ap (λ xs. one.done ++ xs) two.all_are
            ∙ sym (append_assoc one.done two.done two.left);
        in_order = map-append (λ (c : Call). c.tag) one.done two.done ∙ (λ i. one.in_order i ++ two.in_order i)
            ∙ sym (flat_map-append completed_by one.replies two.replies);
        left_is = two.left_is;
        end_is = two.end_is;
      };
    }

abbrev Rest : ℕ → List Step → World → Type 0
Rest seat steps v = (q : SeatSession) → open_at v seat ≡ Some q → HasCompleted (going_on q.talk.stage ++ all_called seat steps v) q (place_at (world_after steps v).places seat)

own_by : (seat : ℕ) (b : List Call) (p : SeatSession) (v : World) (steps : List Step) (a : Acts b seat p v) (c : Bool) → is_closed a.after.talk.stage ≡ c → all_go_on seat steps ≡ true → Rest seat steps v →
    HasCompleted (b ++ all_called seat steps v) p (place_at (world_after steps v).places seat)
own_by seat b p v steps a false e g rest =
    let there : open_at v seat ≡ Some (place_of a.after) = ap if_open a.stands ∙ ap (λ x. if x then None else Some (place_of a.after)) e in
    joined b (all_called seat steps v) p a.after (place_at (world_after steps v).places seat) seat a.made (left_of _ a.after.talk.stage a.made.completed.left e a.made.completed.left_is) (end_of _ a.after.talk.stage a.made.completed.end e a.made.completed.end_is) (rest (place_of a.after) there)
own_by seat b p v steps a true e g rest =
    let r = closed_run seat steps v (place_of a.after) a.stands (closed_is a.after.talk.stage e) g in
    record {
      now = place_of a.after;
      said = a.made.said;
      stands = r.1;
      out_is = a.made.out_is;
      made = subst (λ xs. AreCompleted (b ++ xs) a.made.said a.after.talk.held.fatal a.after.talk.stage) (sym r.0)
          (subst (λ xs. AreCompleted xs a.made.said a.after.talk.held.fatal a.after.talk.stage) (sym (append-nil b)) a.made.completed);
    }

-- ---- whole runs

step_by : (seat : ℕ) (x : Step) (steps : List Step) (w : World) (p : SeatSession) (b : Bool) → (x.occasion.seat == seat) ≡ b → AllSeated w → open_at w seat ≡ Some p → (not b || goes_on x.action) ≡ true → all_go_on seat steps ≡ true →
    Rest seat steps (did x.occasion x.refused x.action w) →
    HasCompleted (going_on p.talk.stage ++ ((if b then called_by x.action (open_at w seat) else []) ++ all_called seat steps (did x.occasion x.refused x.action w))) p
    (place_at (world_after steps (did x.occasion x.refused x.action w)).places seat)
step_by seat x steps w p true e a o g h rest =
    let v = did x.occasion x.refused x.action w in
    let k = eqb-true x.occasion.seat seat e in
    let act = subst (λ j. open_at w j ≡ Some p → Acts (going_on p.talk.stage ++ called_by x.action (open_at w j)) j p v) k (λ f. acts x w p f a g) o in
    subst (λ b. HasCompleted b p (place_at (world_after steps v).places seat)) (append_assoc (going_on p.talk.stage) (called_by x.action (open_at w seat)) (all_called seat steps v))
    (own_by seat _ p v steps act (is_closed act.after.talk.stage) refl h rest)
step_by seat x steps w p false e a o g h rest =
    rest p (ap if_open ((others_stay x w).0 seat (λ f. eqb-false x.occasion.seat seat e (sym f))) ∙ o)

open_run : (seat : ℕ) (steps : List Step) (w : World) → AllSeated w → all_go_on seat steps ≡ true → Rest seat steps w
open_run seat [] w a g p o = record {
  now = p;
  said = [];
  stands = (opened (place_at w.places seat) p o).0;
  out_is = sym (append-nil p.out);
  made = silent _ p.talk.held.fatal p.talk.stage (not_over p.talk.held.fatal p.talk.stage _ (opened (place_at w.places seat) p o).1 (append-nil (going_on p.talk.stage)));
}
open_run seat (x ∷ steps) w a g p o =
    let parts = and_parts (not (x.occasion.seat == seat) || goes_on x.action) (all_go_on seat steps) g in
    step_by seat x steps w p (x.occasion.seat == seat) refl a o parts.0 parts.1 (open_run seat steps (did x.occasion x.refused x.action w) (step_seated x w a) parts.1)

pub completion : CompletionLaw
completion realm users host before steps seat old o g =
    open_run seat steps (world_after before (new_world realm users host)) (run_seated before (new_world realm users host) (new_seated realm users host)) g old o
