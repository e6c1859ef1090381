-- When what was said is taken makes no difference.
use Rattle.std.proofs.Common.{◌≡◌, inl, inr, ℕ, Bool, true, false, ◌==◌, List, [], ◌∷◌, ◌++◌, Option, Some, None, refl, sym, ap, subst, ◌∙◌, if◌then◌else◌, append_assoc}
use Rattle.std.specs.Prelude.{◌⊎◌, option_map}
use Rattle.std.specs.Option.{option_and_then}
use Rattle.std.proofs.lemmas.Bool.{eqb-true, eqb-false}
use Rattle.std.proofs.lemmas.List.{append-nil}
use Rattle.acap_dialogue.specs.Session.{is_closed, session_drain}
use Rattle.acap_dialogue.specs.Talking.{beginning}
use Rattle.acap_commands.specs.declared.event.Event.{Event}
use Rattle.acap_session.specs.Laws.{OwnStep, asked_by, own_at}
use Rattle.acap_session.specs.Live.{told_with}
use Rattle.acap_session.specs.Places.{SeatSession, Places, place_at, with_place, if_open}
use Rattle.acap_session.specs.Taking.{Act, Makes, Takes, world_acted, steps_among, said_at, taken_by, taken_in, IsTakenFrom, TakingLaw}
use Rattle.acap_session.specs.Turning.{Scene, scene, turn_of, drain_of}
use Rattle.acap_session.specs.World as world
use Rattle.acap_session.specs.World.{World, Action, Step, did, ends, open_at, output_taken, said_before, scene_of, taken_from, takes, with_scene, world_after}
use Rattle.acap_session.specs.declared.occasion.Occasion.{Occasion}
use Rattle.acap_session.proofs.Alone.{did_by, did_is, place_of, placed_other}
use Rattle.acap_session.proofs.Piping.{prefixed, turn_pre, turn_pre_by}
use Rattle.acap_session.proofs.Placing.{placed_there}

-- ---- what stands at a seat, with more said before

abbrev behind : List ℕ → Option SeatSession → Option SeatSession
behind octets None = None
behind octets (Some place) = Some (record place { out = octets ++ place.out })

is_behind : (p q : Option SeatSession) (t : List ℕ) → option_map (λ (x : SeatSession). x.talk) p ≡ option_map (λ (x : SeatSession). x.talk) q → said_before p ≡ t ++ said_before q → p ≡ behind t q
is_behind None None t e f = refl
is_behind None (Some q) t e f = absurd cc
is_behind (Some p) None t e f = absurd cc
is_behind (Some p) (Some q) t e f = let talk : p.talk ≡ q.talk = cc in λ i. Some (record { talk = talk i; out = f i })

behind_open : (t : List ℕ) (q : Option SeatSession) → if_open (behind t q) ≡ behind t (if_open q)
behind_open t None = refl
behind_open t (Some q) =
    elim (is_closed q.talk.stage) as (λ b. (if b then None else Some (record q { out = t ++ q.out })) ≡ behind t (if b then None else Some q)) [
      | true ↦ refl
      | false ↦ refl
    ]

-- ---- one step

drain_pre : (xs : List ℕ) (o : Occasion) (refused : Bool) (s : Scene) → (drain_of o refused (prefixed xs s)).1 ≡ prefixed xs (drain_of o refused s).1
unfolding drain_of
drain_pre xs o refused s = ap (λ k. k.1) (turn_pre_by xs o refused s (session_drain s.talk).0 (session_drain s.talk).1)

-- both are left, or the same is set in both but for what was taken
abbrev SetBoth : ℕ → List ℕ → World → World → World → World → Type 0
SetBoth k t w v a b = ((a ≡ w) × (b ≡ v)) ⊎ ((s : Scene) × (a ≡ with_scene w k (prefixed t s)) × (b ≡ with_scene v k s))

abbrev with_places : World → Places → World
with_places w places = record w { places = places }

set_both : (o : Occasion) (refused : Bool) (action : Action) (w : World) (vs : Places) (t : List ℕ) (now : Option SeatSession) → said_before (place_at w.places o.seat) ≡ t ++ said_before (place_at vs o.seat)
    → SetBoth o.seat t w (with_places w vs) (did_by o refused action w (behind t now)) (did_by o refused action (with_places w vs) now)
set_both o refused (world.Open user) w vs t None e =
    let s = scene w.machine (beginning w.host user) (said_before (place_at vs o.seat)) in
    inr ((turn_of w.users o refused s).1, ap (λ out. with_scene w o.seat (turn_of w.users o refused (scene w.machine (beginning w.host user) out)).1) e ∙ ap (λ k. with_scene w o.seat k.1) (turn_pre w.users t o refused s), refl)
set_both o refused (world.Open user) w vs t (Some p) e = inl (refl, refl)
set_both o refused (world.Piece octets) w vs t None e = inl (refl, refl)
set_both o refused (world.Piece octets) w vs t (Some p) e = inr (takes octets (scene_of w p), refl, refl)
set_both o refused world.Turn w vs t None e = inl (refl, refl)
set_both o refused world.Turn w vs t (Some p) e =
    inr ((turn_of w.users o refused (scene_of w p)).1, ap (λ k. with_scene w o.seat k.1) (turn_pre w.users t o refused (scene_of w p)), refl)
set_both o refused world.Drain w vs t None e = inl (refl, refl)
set_both o refused world.Drain w vs t (Some p) e =
    inr ((drain_of o refused (scene_of w p)).1, ap (λ s. with_scene w o.seat s) (drain_pre t o refused (scene_of w p)), refl)
set_both o refused world.Leave w vs t None e = inl (refl, refl)
set_both o refused world.Leave w vs t (Some p) e = inr (ends o (scene_of w p), refl, refl)

-- ---- and it leaves worlds that are the same but for what was taken

of_places : (taken : ℕ → List ℕ) (w v : World) → IsTakenFrom taken w v → v ≡ with_places w v.places
of_places taken w v h = λ i. record { machine = h.machine i; places = v.places; users = h.users i; host = h.host i }

-- something set at one seat
set_talks : (ws vs : Places) (k seat : ℕ) (t : List ℕ) (s : Scene) (b : Bool) → (seat == k) ≡ b
    → option_map (λ (x : SeatSession). x.talk) (place_at ws seat) ≡ option_map (λ (x : SeatSession). x.talk) (place_at vs seat)
    → option_map (λ (x : SeatSession). x.talk) (place_at (with_place ws k (place_of (prefixed t s))) seat) ≡ option_map (λ (x : SeatSession). x.talk) (place_at (with_place vs k (place_of s)) seat)
set_talks ws vs k seat t s true own e =
    let at = eqb-true seat k own in
    ap (λ j. option_map (λ (x : SeatSession). x.talk) (place_at (with_place ws k (place_of (prefixed t s))) j)) at
    ∙ ap (λ p. option_map (λ (x : SeatSession). x.talk) p) (placed_there ws k (place_of (prefixed t s)) ∙ refl)
    ∙ sym (ap (λ p. option_map (λ (x : SeatSession). x.talk) p) (placed_there vs k (place_of s)))
    ∙ sym (ap (λ j. option_map (λ (x : SeatSession). x.talk) (place_at (with_place vs k (place_of s)) j)) at)
set_talks ws vs k seat t s false own e =
    let apart = eqb-false seat k own in
    ap (λ p. option_map (λ (x : SeatSession). x.talk) p) (placed_other ws k seat (place_of (prefixed t s)) apart) ∙ e
    ∙ sym (ap (λ p. option_map (λ (x : SeatSession). x.talk) p) (placed_other vs k seat (place_of s) apart))

set_said : (ws vs : Places) (k seat : ℕ) (taken : ℕ → List ℕ) (s : Scene) (b : Bool) → (seat == k) ≡ b
    → said_before (place_at ws seat) ≡ taken seat ++ said_before (place_at vs seat)
    → said_before (place_at (with_place ws k (place_of (prefixed (taken k) s))) seat) ≡ taken seat ++ said_before (place_at (with_place vs k (place_of s)) seat)
set_said ws vs k seat taken s true own e =
    let at = eqb-true seat k own in
    ap (λ j. said_before (place_at (with_place ws k (place_of (prefixed (taken k) s))) j)) at
    ∙ ap said_before (placed_there ws k (place_of (prefixed (taken k) s)))
    ∙ sym (ap (λ p. taken k ++ said_before p) (placed_there vs k (place_of s)))
    ∙ sym (ap (λ j. taken j ++ said_before (place_at (with_place vs k (place_of s)) j)) at)
set_said ws vs k seat taken s false own e =
    let apart = eqb-false seat k own in
    ap said_before (placed_other ws k seat (place_of (prefixed (taken k) s)) apart) ∙ e
    ∙ sym (ap (λ p. taken seat ++ said_before p) (placed_other vs k seat (place_of s) apart))

set_taken : (taken : ℕ → List ℕ) (k : ℕ) (w : World) (vs : Places) (s : Scene) → IsTakenFrom taken w (with_places w vs)
    → IsTakenFrom taken (with_scene w k (prefixed (taken k) s)) (with_scene (with_places w vs) k s)
set_taken taken k w vs s h = record {
  machine = refl;
  users = refl;
  host = refl;
  talks = λ seat. set_talks w.places vs k seat (taken k) s (seat == k) refl (h.talks seat);
  said = λ seat. set_said w.places vs k seat taken s (seat == k) refl (h.said seat);
}

both_taken : (taken : ℕ → List ℕ) (k : ℕ) (w : World) (vs : Places) (a b : World) → IsTakenFrom taken w (with_places w vs) → SetBoth k (taken k) w (with_places w vs) a b → IsTakenFrom taken a b
both_taken taken k w vs a b h (inl (e, f)) = subst (λ y. IsTakenFrom taken y b) (sym e) (subst (λ z. IsTakenFrom taken w z) (sym f) h)
both_taken taken k w vs a b h (inr (s, e, f)) =
    subst (λ y. IsTakenFrom taken y b) (sym e) (subst (λ z. IsTakenFrom taken (with_scene w k (prefixed (taken k) s)) z) (sym f) (set_taken taken k w vs s h))

opens_alike : (taken : ℕ → List ℕ) (seat : ℕ) (w v : World) → IsTakenFrom taken w v → open_at w seat ≡ behind (taken seat) (open_at v seat)
opens_alike taken seat w v h = ap if_open (is_behind (place_at w.places seat) (place_at v.places seat) (taken seat) (h.talks seat) (h.said seat)) ∙ behind_open (taken seat) (place_at v.places seat)

step_taken_in : (taken : ℕ → List ℕ) (o : Occasion) (refused : Bool) (action : Action) (w : World) (vs : Places) → IsTakenFrom taken w (with_places w vs)
    → IsTakenFrom taken (did o refused action w) (did o refused action (with_places w vs))
step_taken_in taken o refused action w vs h =
    let v = with_places w vs in
    let both = set_both o refused action w vs (taken o.seat) (open_at v o.seat) (h.said o.seat) in
    both_taken taken o.seat w vs (did o refused action w) (did o refused action v) h
    (subst (λ a. SetBoth o.seat (taken o.seat) w v a (did o refused action v)) (sym (did_is o refused action w ∙ ap (λ now. did_by o refused action w now) (opens_alike taken o.seat w v h)))
    (subst (λ b. SetBoth o.seat (taken o.seat) w v (did_by o refused action w (behind (taken o.seat) (open_at v o.seat))) b) (sym (did_is o refused action v)) both))

step_taken : (taken : ℕ → List ℕ) (o : Occasion) (refused : Bool) (action : Action) (w v : World) → IsTakenFrom taken w v → IsTakenFrom taken (did o refused action w) (did o refused action v)
step_taken taken o refused action w v h =
    let e = of_places taken w v h in
    subst (λ z. IsTakenFrom taken (did o refused action w) (did o refused action z)) (sym e) (step_taken_in taken o refused action w v.places (subst (λ z. IsTakenFrom taken w z) e h))

-- ---- a taking

-- what stands at a seat behind it
emptied_talk : (vs : Places) (k seat : ℕ) (x : Option SeatSession) (b : Bool) → place_at vs k ≡ x → (k == seat) ≡ b
    → option_map (λ (p : SeatSession). p.talk) (place_at vs seat) ≡ option_map (λ (p : SeatSession). p.talk) (place_at (taken_from vs k x) seat)
emptied_talk vs k seat None b there own = refl
emptied_talk vs k seat (Some p) true there own =
    let at = eqb-true k seat own in
    subst (λ j. option_map (λ (q : SeatSession). q.talk) (place_at vs j) ≡ option_map (λ (q : SeatSession). q.talk) (place_at (with_place vs k (record p { out = [] })) j)) at
    (ap (λ q. option_map (λ (q : SeatSession). q.talk) q) there ∙ sym (ap (λ q. option_map (λ (q : SeatSession). q.talk) q) (placed_there vs k (record p { out = [] }))))
emptied_talk vs k seat (Some p) false there own =
    sym (ap (λ q. option_map (λ (q : SeatSession). q.talk) q) (placed_other vs k seat (record p { out = [] }) (λ s. eqb-false k seat own (sym s))))

emptied_said : (vs : Places) (k seat : ℕ) (x : Option SeatSession) (b : Bool) → place_at vs k ≡ x → (k == seat) ≡ b
    → said_before (place_at vs seat) ≡ (if b then said_before (place_at vs seat) else []) ++ said_before (place_at (taken_from vs k x) seat)
emptied_said vs k seat None true there own =
    let at = eqb-true k seat own in
    let none : said_before (place_at vs seat) ≡ [] = ap said_before (ap (λ j. place_at vs j) (sym at) ∙ there) in
    none ∙ sym (ap (λ ys. ys ++ said_before (place_at vs seat)) none ∙ none)
emptied_said vs k seat None false there own = refl
emptied_said vs k seat (Some p) true there own =
    let at = eqb-true k seat own in
    let none : said_before (place_at (with_place vs k (record p { out = [] })) seat) ≡ [] = ap (λ j. said_before (place_at (with_place vs k (record p { out = [] })) j)) (sym at) ∙ ap said_before (placed_there vs k (record p { out = [] })) in
    sym (ap (λ ys. said_before (place_at vs seat) ++ ys) none ∙ append-nil (said_before (place_at vs seat)))
emptied_said vs k seat (Some p) false there own =
    sym (ap said_before (placed_other vs k seat (record p { out = [] }) (λ s. eqb-false k seat own (sym s))))

taking : (taken : ℕ → List ℕ) (k : ℕ) (w v : World) → IsTakenFrom taken w v → IsTakenFrom (λ seat. taken seat ++ taken_by seat (Takes k) v) w (output_taken v k)
taking taken k w v h = record {
  machine = h.machine;
  users = h.users;
  host = h.host;
  talks = λ seat. h.talks seat ∙ emptied_talk v.places k seat (place_at v.places k) (k == seat) refl refl;
  said = λ seat. h.said seat ∙ ap (λ ys. taken seat ++ ys) (emptied_said v.places k seat (place_at v.places k) (k == seat) refl refl) ∙ sym (append_assoc (taken seat) (taken_by seat (Takes k) v) (said_at (output_taken v k) seat));
}

-- ---- a run

taken_alike : (taken more : ℕ → List ℕ) (w v : World) → ((seat : ℕ) → taken seat ≡ more seat) → IsTakenFrom taken w v → IsTakenFrom more w v
taken_alike taken more w v e h = record { machine = h.machine; users = h.users; host = h.host; talks = h.talks; said = λ seat. h.said seat ∙ ap (λ ys. ys ++ said_at v seat) (e seat) }

run_taken : (acts : List Act) (taken : ℕ → List ℕ) (w v : World) → IsTakenFrom taken w v → IsTakenFrom (λ seat. taken seat ++ taken_in seat acts v) (world_after (steps_among acts) w) (world_acted acts v)
run_taken [] taken w v h = taken_alike taken (λ seat. taken seat ++ []) w v (λ seat. sym (append-nil (taken seat))) h
run_taken (Makes x ∷ xs) taken w v h = run_taken xs taken (did x.occasion x.refused x.action w) (did x.occasion x.refused x.action v) (step_taken taken x.occasion x.refused x.action w v h)
run_taken (Takes k ∷ xs) taken w v h =
    taken_alike (λ seat. (taken seat ++ taken_by seat (Takes k) v) ++ taken_in seat xs (output_taken v k)) (λ seat. taken seat ++ (taken_by seat (Takes k) v ++ taken_in seat xs (output_taken v k))) (world_after (steps_among xs) w) (world_acted xs (output_taken v k))
    (λ seat. append_assoc (taken seat) (taken_by seat (Takes k) v) (taken_in seat xs (output_taken v k)))
    (run_taken xs (λ seat. taken seat ++ taken_by seat (Takes k) v) w (output_taken v k) (taking taken k w v h))

all_taken : (acts : List Act) (w : World) → IsTakenFrom (λ seat. taken_in seat acts w) (world_after (steps_among acts) w) (world_acted acts w)
all_taken acts w = run_taken acts (λ seat. []) w w (record { machine = refl; users = refl; host = refl; talks = λ seat. refl; said = λ seat. refl })

-- ---- what a further step asks and is answered

abbrev step_on : Occasion → Bool → Action → Step
step_on o refused action = record { occasion = o; refused = refused; action = action }

-- (the event that it asks, and the step with what is answered)
abbrev asking : World → Step → Option SeatSession → Option Event × OwnStep
asking w x now = (asked_by w x now, own_at w x now)

asks_alike : (o : Occasion) (refused : Bool) (action : Action) (w : World) (vs : Places) (t : List ℕ) (now : Option SeatSession) →
    asking (with_places w vs) (step_on o refused action) now ≡ asking w (step_on o refused action) (behind t now)
asks_alike o refused (world.Open user) w vs t None = refl
asks_alike o refused (world.Open user) w vs t (Some p) = refl
asks_alike o refused (world.Piece octets) w vs t None = refl
asks_alike o refused (world.Piece octets) w vs t (Some p) = refl
asks_alike o refused world.Turn w vs t None = refl
asks_alike o refused world.Turn w vs t (Some p) = refl
asks_alike o refused world.Drain w vs t None = refl
asks_alike o refused world.Drain w vs t (Some p) = refl
asks_alike o refused world.Leave w vs t None = refl
asks_alike o refused world.Leave w vs t (Some p) = refl

asked_alike : (taken : ℕ → List ℕ) (x : Step) (w v : World) → IsTakenFrom taken w v → asking v x (open_at v x.occasion.seat) ≡ asking w x (open_at w x.occasion.seat)
asked_alike taken x w v h =
    let seat = x.occasion.seat in
    ap (λ z. asking z x (open_at v seat)) (of_places taken w v h)
    ∙ asks_alike x.occasion x.refused x.action w v.places (taken seat) (open_at v seat)
    ∙ sym (ap (λ now. asking w x now) (opens_alike taken seat w v h))

pub taking_law : TakingLaw
taking_law = record {
  left = all_taken;
  own = λ acts x w. ap (λ k. k.1) (asked_alike _ x _ _ (all_taken acts w));
  told = λ acts x w. ap (λ k. option_and_then (λ e. option_and_then (told_with e) k.1.asked) k.0) (asked_alike _ x _ _ (all_taken acts w));
}
