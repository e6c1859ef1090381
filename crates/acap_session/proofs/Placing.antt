-- What stands at a seat, and what a place set there leaves.
use Rattle.std.proofs.Common.{◌≡◌, ◌⊎◌, inl, inr, ℕ, zero, suc, ◌<◌, ◌≤◌, Bool, true, false, not, List, [], ◌∷◌, ◌++◌, length, take, Option, Some, None, Result, Ok, Err, IsSome, IsErr, IsErrAnd, get_or, set, refl, sym, ap, subst, ◌∙◌, arith}
use Rattle.std.proofs.Math.Seq.{take-length}
use Rattle.std.specs.Option.{is_some}
use Rattle.acap_session.specs.Places.{SeatSession, Places, place_at, with_place, places_up_to, if_open}
use Rattle.acap_dialogue.specs.Session.{is_closed, session_next}
use Rattle.acap_machine.specs.Machine.{Machine}
use Rattle.acap_commands.specs.declared.event.Event.{Event}
use Rattle.acap_commands.specs.declared.said.Said.{Said}
use Rattle.acap_session.specs.Live.{IsTold, IsToldIn, ReportsAt, step_on, told_at}
use Rattle.acap_session.specs.Turning.{Scene, scene, CutInDraining, WasCut, IsTurn, turn_of, drain_of}
use Rattle.acap_session.specs.World.{World, Action, said_before, taken_from, output_taken, opened_at, Drains, HasBegun, IsStep, IsCutAt, Turns, HasTurnedAt, went_on, Feeds, Leaves, Opens, room_of, with_octets, at_open, did, open_at, scene_of, with_scene, takes, ends}
use Rattle.acap_session.specs.World as world
use Rattle.acap_dialogue.specs.Talking.{Talking, beginning}
use Rattle.acap_session.specs.declared.occasion.Occasion.{Occasion}
use Rattle.acap_session.specs.declared.occasion.Turn as turned
use Rattle.acap_session.specs.declared.world_fault.WorldFault.{WorldFault}
use Rattle.acap_session.specs.declared.world_fault.WorldFault.TheVariants as faults

pub place_or : (xs : Places) (k : ℕ) (d : Option SeatSession) → k < length xs → place_at xs k ≡ get_or xs k d
place_or [] k d e = absurd (omega (arith, e))
place_or (x ∷ xs) zero d e = refl
place_or (x ∷ xs) (suc k) d e = place_or xs k d (omega (arith, e))

pub stands : (xs : Places) (k : ℕ) (x : Option SeatSession) → k < length xs → ((d : Option SeatSession) → x ≡ get_or xs k d) → place_at xs k ≡ x
stands xs k x e g = place_or xs k x e ∙ sym (g x)

pub nothing_behind : (xs : Places) (k : ℕ) → length xs ≤ k → place_at xs k ≡ None
nothing_behind [] k e = refl
nothing_behind (x ∷ xs) zero e = absurd (omega (arith, e))
nothing_behind (x ∷ xs) (suc k) e = nothing_behind xs k (omega (arith, e))

-- whether it is open
open_by : (p : SeatSession) (b : Bool) → is_closed p.talk.stage ≡ b → is_some (if_open (Some p)) ≡ not b
open_by p true e = rw e refl
open_by p false e = rw e refl

pub open_some : (p : SeatSession) → is_some (if_open (Some p)) ≡ not (is_closed p.talk.stage)
open_some p = open_by p (is_closed p.talk.stage) refl

-- a seat where something stands is within
pub within : (xs : Places) (k : ℕ) → true ≡ is_some (if_open (place_at xs k)) → k < length xs
within [] k e = cc
within (x ∷ xs) zero e = omega arith
within (x ∷ xs) (suc k) e = let r = within xs k e in omega (arith, r)

-- what stands at a seat where a place is set
pub placed_there : (xs : Places) (k : ℕ) (p : SeatSession) → place_at (with_place xs k p) k ≡ Some p
placed_there [] zero p = refl
placed_there [] (suc k) p = placed_there [] k p
placed_there (x ∷ xs) zero p = refl
placed_there (x ∷ xs) (suc k) p = placed_there xs k p

-- what is set there stands there
pub set_is : (xs : Places) (k : ℕ) (p : SeatSession) → k < length xs → set xs k (Some p) ≡ with_place xs k p
set_is [] k p e = absurd (omega (arith, e))
set_is (x ∷ xs) zero p e = refl
set_is (x ∷ xs) (suc k) p e = ap (λ ys. x ∷ ys) (set_is xs k p (omega (arith, e)))

-- ---- a session that is open at a seat stands there

open_case : (p : SeatSession) (b : Bool) → is_closed p.talk.stage ≡ b → true ≡ is_some (if_open (Some p)) → if_open (Some p) ≡ Some p
open_case p true e f = absurd (let k = f ∙ open_by p true e in cc)
open_case p false e f = rw e refl

open_of : (x : Option SeatSession) → true ≡ is_some (if_open x) → if_open x ≡ x
open_of None e = refl
open_of (Some p) e = open_case p (is_closed p.talk.stage) refl e

pub open_there : (w : World) (i k : ℕ) (d item : Option SeatSession) (place : SeatSession) → i ≡ k → true ≡ is_some (open_at w k) → item ≡ get_or w.places i d → item ≡ Some place → open_at w k ≡ Some place
open_there w i k d item place h e g s = open_of (place_at w.places k) e ∙ place_or w.places k d (within w.places k e) ∙ sym (g ∙ ap (λ n. get_or w.places n d) h) ∙ s

none_case : (x : Option SeatSession) → false ≡ is_some x → x ≡ None
none_case None e = refl
none_case (Some p) e = absurd cc

pub not_open : (w : World) (k : ℕ) → false ≡ is_some (open_at w k) → open_at w k ≡ None
not_open w k e = none_case (open_at w k) e

-- ---- the steps

drain_step : (w : World) (o : Occasion) (place : SeatSession) (came : turned.Turn) (s : Scene) → open_at w o.seat ≡ Some place → (came, s) ≡ drain_of o false (scene_of w place) → with_scene w o.seat s ≡ did o false world.Drain w
unfolding did
drain_step w o place came s e t = ap (λ (p : turned.Turn × Scene). with_scene w o.seat p.1) t ∙ sym (ap (λ x. at_open w o.seat (λ s. (drain_of o false s).1) x) e)

pub piece_step : (w : World) (o : Occasion) (octets : List ℕ) (place : SeatSession) → open_at w o.seat ≡ Some place → with_scene w o.seat (takes octets (scene_of w place)) ≡ did o false (world.Piece octets) w
unfolding did
piece_step w o octets place e = sym (ap (λ x. at_open w o.seat (takes octets) x) e)

pub leave_step : (w : World) (o : Occasion) (place : SeatSession) → open_at w o.seat ≡ Some place → with_scene w o.seat (ends o (scene_of w place)) ≡ did o false world.Leave w
unfolding did
leave_step w o place e = sym (ap (λ x. at_open w o.seat (ends o) x) e)

-- ---- what the calls leave

pub now_open : (w old : World) (k : ℕ) (b : Bool) → w ≡ old → b ≡ true → b ≡ is_some (open_at old k) → true ≡ is_some (open_at w k)
now_open w old k b v e g = sym e ∙ g ∙ ap (λ (u : World). is_some (open_at u k)) (sym v)

is_there : (w : World) (k : ℕ) (place : SeatSession) → open_at w k ≡ Some place → IsSome (open_at w k)
is_there w k place e = ap is_some e

pub none_there : (w : World) (i k : ℕ) (d item : Option SeatSession) → i ≡ k → true ≡ is_some (open_at w k) → item ≡ get_or w.places i d → item ≡ None → ⊥
none_there w i k d item h e g s = let r = e ∙ ap (λ x. is_some (if_open x)) (place_or w.places k d (within w.places k e) ∙ sym (g ∙ ap (λ n. get_or w.places n d) h) ∙ s) in cc

pub put_is : (w : World) (m : Machine) (i k : ℕ) (p : SeatSession) → i ≡ k → true ≡ is_some (open_at w k) → record w { machine = m; places = set w.places i (Some p) } ≡ with_scene w k (scene m p.talk p.out)
put_is w m i k p e g = ap (λ xs. record w { machine = m; places = xs }) (ap (λ n. set w.places n (Some p)) e ∙ set_is w.places k p (within w.places k g))

pub is_within : (w : World) (i k : ℕ) → i ≡ k → true ≡ is_some (open_at w k) → i < length w.places
is_within w i k e g = subst (λ n. n < length w.places) (sym e) (within w.places k g)

turned_at : (w v : World) (o : Occasion) (place : SeatSession) (x : turned.Turn) (s : Scene) (goes : Bool) → open_at w o.seat ≡ Some place → v ≡ with_scene w o.seat s → goes ≡ went_on x → IsTurn w.users o (scene_of w place) x s → HasTurnedAt o goes w v
unfolding did
turned_at w v o place x s goes e f g t =
    record {
      place = place;
      there = e;
      refused = t.refused;
      is = f ∙ (ap (λ (p : turned.Turn × Scene). with_scene w o.seat p.1) t.is ∙ sym (ap (λ x. at_open w o.seat (λ s. (turn_of w.users o t.refused s).1) x) e));
      came = g ∙ ap (λ (p : turned.Turn × Scene). went_on p.0) t.is;
    }

pub turn_made : (old w v : World) (o : Occasion) (place : SeatSession) (x : turned.Turn) (s : Scene) (goes : Bool) (out : Result Bool WorldFault) → w ≡ old → open_at w o.seat ≡ Some place → v ≡ with_scene w o.seat s → out ≡ Ok goes → goes ≡ went_on x → IsTurn w.users o (scene_of w place) x s → Turns o old v out
turn_made old w v o place x s goes out same e f g h t = subst (λ (y : World). Turns o y v out) same (subst (λ r. Turns o w v r) (sym g) (turned_at w v o place x s goes e f h t))

pub turn_cut : (old w v : World) (o : Occasion) (place : SeatSession) (s : Scene) (out : Result Bool WorldFault) → w ≡ old → open_at w o.seat ≡ Some place → v ≡ with_scene w o.seat s → out ≡ Err faults.Memory → WasCut o (scene_of w place) (session_next w.users o.nonce o.clock place.talk) s → Turns o old v out
turn_cut old w v o place s out same e f g t = subst (λ (y : World). Turns o y v out) same (subst (λ r. Turns o w v r) (sym g) (place, e, record { after = s; cut = t; is = f }))

told_there : (w v : World) (o : Occasion) (place : SeatSession) (s : Scene) (told : Option (Event × Said)) → open_at w o.seat ≡ Some place → v ≡ with_scene w o.seat s → IsTold w.users o (scene_of w place) told s → IsToldIn (step_on o world.Turn) w told v
unfolding did
told_there w v o place s told e f k = (
  k.0 ∙ sym (ap (told_at w (step_on o world.Turn)) e),
  f ∙ ap (with_scene w o.seat) k.1 ∙ sym (ap (at_open w o.seat (λ s. (turn_of w.users o false s).1)) e),
)

pub report_made : (old w v : World) (o : Occasion) (place : SeatSession) (s : Scene) (told : Option (Event × Said)) (out : Result (Option (Event × Said)) WorldFault) → w ≡ old → open_at w o.seat ≡ Some place → v ≡ with_scene w o.seat s → out ≡ Ok told → IsTold w.users o (scene_of w place) told s → ReportsAt o old v out
report_made old w v o place s told out same e f g k = subst (λ (y : World). ReportsAt o y v out) same (subst (λ r. ReportsAt o w v r) (sym g) (is_there w o.seat place e, told_there w v o place s told e f k))

report_left : (w v : World) (o : Occasion) (place : SeatSession) (s : Scene) → open_at w o.seat ≡ Some place → v ≡ with_scene w o.seat s → ((came : turned.Turn) × IsTurn w.users o (scene_of w place) came s) ⊎ WasCut o (scene_of w place) (session_next w.users o.nonce o.clock place.talk) s
    → IsStep o world.Turn w v ⊎ IsCutAt o (WasCut o (scene_of w place) (session_next w.users o.nonce o.clock place.talk)) w v
unfolding did
report_left w v o place s e f (inl k) = inl (record {
  refused = k.1.refused;
  is = f ∙ ap (λ (x : turned.Turn × Scene). with_scene w o.seat x.1) k.1.is ∙ sym (ap (at_open w o.seat (λ s. (turn_of w.users o k.1.refused s).1)) e);
})
report_left w v o place s e f (inr k) = inr (record { after = s; cut = k; is = f })

pub report_cut : (old w v : World) (o : Occasion) (place : SeatSession) (s : Scene) (out : Result (Option (Event × Said)) WorldFault) → w ≡ old → open_at w o.seat ≡ Some place → v ≡ with_scene w o.seat s → out ≡ Err faults.Memory
    → ((came : turned.Turn) × IsTurn w.users o (scene_of w place) came s) ⊎ WasCut o (scene_of w place) (session_next w.users o.nonce o.clock place.talk) s → ReportsAt o old v out
report_cut old w v o place s out same e f g k = subst (λ (y : World). ReportsAt o y v out) same (subst (λ r. ReportsAt o w v r) (sym g) (place, e, report_left w v o place s e f k))

pub drain_made : (old w v : World) (o : Occasion) (place : SeatSession) (x : turned.Turn) (s : Scene) (out : Result (Unit {0}) WorldFault) (u : Unit {0}) → w ≡ old → open_at w o.seat ≡ Some place → v ≡ with_scene w o.seat s → out ≡ Ok u → (x, s) ≡ drain_of o false (scene_of w place) → Drains o old v out
drain_made old w v o place x s out u same e f g t = subst (λ (y : World). Drains o y v out) same (subst (λ r. Drains o w v r) (sym g) (is_there w o.seat place e, f ∙ drain_step w o place x s e t))

pub open_is : (x : Option SeatSession) (place : SeatSession) → if_open x ≡ Some place → x ≡ Some place
open_is None place e = cc
open_is (Some p) place e = sym (open_of (Some p) (sym (ap is_some e))) ∙ e

pub same_placed : (xs : Places) (k : ℕ) (place : SeatSession) → place_at xs k ≡ Some place → with_place xs k place ≡ xs
same_placed [] k place e = absurd cc
same_placed (x ∷ xs) zero place e = ap (λ y. y ∷ xs) (sym e)
same_placed (x ∷ xs) (suc k) place e = ap (λ ys. x ∷ ys) (same_placed xs k place e)

pub same_scene : (w : World) (k : ℕ) (place : SeatSession) → open_at w k ≡ Some place → with_scene w k (scene_of w place) ≡ w
same_scene w k place e = ap (λ ys. record w { places = ys }) (same_placed w.places k place (open_is (place_at w.places k) place e))

drain_left : (w v : World) (o : Occasion) (place : SeatSession) (s : Scene) → open_at w o.seat ≡ Some place → v ≡ with_scene w o.seat s → (s ≡ scene_of w place) ⊎ CutInDraining o (scene_of w place) s → (v ≡ w) ⊎ IsCutAt o (CutInDraining o (scene_of w place)) w v
drain_left w v o place s e f (inl k) = inl (f ∙ ap (λ y. with_scene w o.seat y) k ∙ same_scene w o.seat place e)
drain_left w v o place s e f (inr k) = inr (record { after = s; cut = k; is = f })

pub drain_cut : (old w v : World) (o : Occasion) (place : SeatSession) (s : Scene) (out : Result (Unit {0}) WorldFault) → w ≡ old → open_at w o.seat ≡ Some place → v ≡ with_scene w o.seat s → out ≡ Err faults.Memory → (s ≡ scene_of w place) ⊎ CutInDraining o (scene_of w place) s → Drains o old v out
drain_cut old w v o place s out same e f g t = subst (λ (y : World). Drains o y v out) same (subst (λ r. Drains o w v r) (sym g) (place, e, drain_left w v o place s e f t))

pub leave_made : (old w v : World) (o : Occasion) (place : SeatSession) (s : Scene) → w ≡ old → open_at w o.seat ≡ Some place → v ≡ with_scene w o.seat s → s ≡ ends o (scene_of w place) → IsSome (open_at old o.seat) × IsStep o world.Leave old v
leave_made old w v o place s same e f t = subst (λ (y : World). IsSome (open_at y o.seat) × IsStep o world.Leave y v) same (is_there w o.seat place e, record { refused = false; is = f ∙ ap (λ y. with_scene w o.seat y) t ∙ leave_step w o place e })

fed_step : (w v : World) (octets : List ℕ) (k n : ℕ) (place left : SeatSession) → open_at w k ≡ Some place → v ≡ with_scene w k (scene w.machine left.talk left.out) → n ≡ room_of place.talk octets → left ≡ record place { talk = with_octets place.talk n octets } → (o : Occasion) → o.seat ≡ k → IsStep o (world.Piece octets) w v
fed_step w v octets k n place left e f room t o h =
    let there = ap (λ i. open_at w i) h ∙ e in
    let put = f ∙ ap (λ (p : SeatSession). with_scene w k (scene w.machine p.talk p.out)) (t ∙ ap (λ i. record place { talk = with_octets place.talk i octets }) room) ∙ ap (λ i. with_scene w i (takes octets (scene_of w place))) (sym h) in
    record { refused = false; is = put ∙ piece_step w o octets place there }

-- what stands at a seat, set there again
same_set : (xs : Places) (k : ℕ) (d : Option SeatSession) → k < length xs → set xs k (get_or xs k d) ≡ xs
same_set [] k d e = absurd (omega (arith, e))
same_set (x ∷ xs) zero d e = refl
same_set (x ∷ xs) (suc k) d e = ap (λ ys. x ∷ ys) (same_set xs k d (omega (arith, e)))

pub put_back : (w : World) (i k : ℕ) (d item : Option SeatSession) (place left : SeatSession) → i ≡ k → true ≡ is_some (open_at w k) → item ≡ get_or w.places i d → item ≡ Some place → left ≡ place → record w { places = set w.places i (Some left) } ≡ w
put_back w i k d item place left h e g s t = ap (λ xs. record w { places = xs }) (ap (λ p. set w.places i (Some p)) t ∙ ap (λ x. set w.places i x) (sym s ∙ g) ∙ same_set w.places i d (is_within w i k h e))

pub fed : (old w v : World) (octets : List ℕ) (k n : ℕ) (place left : SeatSession) (out : Result ℕ WorldFault) → w ≡ old → open_at w k ≡ Some place → v ≡ with_scene w k (scene w.machine left.talk left.out) → out ≡ Ok n → n ≡ room_of place.talk octets → left ≡ record place { talk = with_octets place.talk n octets } → Feeds k octets old v out
fed old w v octets k n place left out same e f g room t = subst (λ (y : World). Feeds k octets y v out) same (subst (λ r. Feeds k octets w v r) (sym g) (place, e, room, λ o h. fed_step w v octets k n place left e f room t o h))

pub not_fed : (old w v : World) (octets : List ℕ) (k : ℕ) (place left : SeatSession) (out : Result ℕ WorldFault) → w ≡ old → open_at w k ≡ Some place → v ≡ w → out ≡ Err faults.Memory → Feeds k octets old v out
not_fed old w v octets k place left out same e f g = subst (λ (y : World). Feeds k octets y v out) same (subst (λ r. Feeds k octets w v r) (sym g) (is_there w k place e, f))

pub memory_said : (r : Result ℕ WorldFault) → IsErr r → IsErrAnd r (λ e. e ≡ faults.Memory) → r ≡ Err faults.Memory
memory_said (Ok n) e h = absurd cc
memory_said (Err f) e h = ap (λ g. Err g) h

-- ---- places up to a seat

pub reached_more : (xs : Places) (k : ℕ) → length xs ≤ k → places_up_to (xs ++ None ∷ []) k ≡ places_up_to xs k
reached_more [] zero e = refl
reached_more [] (suc k) e = refl
reached_more (x ∷ xs) zero e = absurd (omega (arith, e))
reached_more (x ∷ xs) (suc k) e = ap (λ ys. x ∷ ys) (reached_more xs k (omega (arith, e)))

pub reached_all : (xs : Places) (k : ℕ) → k < length xs → places_up_to xs k ≡ xs
reached_all [] k e = absurd (omega (arith, e))
reached_all (x ∷ xs) zero e = refl
reached_all (x ∷ xs) (suc k) e = ap (λ ys. x ∷ ys) (reached_all xs k (omega (arith, e)))

pub reached_within : (xs : Places) (k : ℕ) → k < length (places_up_to xs k)
reached_within [] zero = omega arith
reached_within [] (suc k) = let r = reached_within [] k in omega (arith, r)
reached_within (x ∷ xs) zero = omega arith
reached_within (x ∷ xs) (suc k) = let r = reached_within xs k in omega (arith, r)

pub reached_set : (xs : Places) (k : ℕ) (p : SeatSession) → set (places_up_to xs k) k (Some p) ≡ with_place xs k p
reached_set [] zero p = refl
reached_set [] (suc k) p = ap (λ ys. None ∷ ys) (reached_set [] k p)
reached_set (x ∷ xs) zero p = refl
reached_set (x ∷ xs) (suc k) p = ap (λ ys. x ∷ ys) (reached_set xs k p)

pub reached_there : (xs : Places) (k : ℕ) (d : Option SeatSession) → get_or (places_up_to xs k) k d ≡ place_at xs k
reached_there [] zero d = refl
reached_there [] (suc k) d = reached_there [] k d
reached_there (x ∷ xs) zero d = refl
reached_there (x ∷ xs) (suc k) d = reached_there xs k d

-- ---- what was said at a seat is taken

pub none_said : (old w : World) (i k n : ℕ) → w ≡ old → i ≡ k → n ≤ i → n ≡ length w.places → said_before (place_at old.places k) ≡ []
none_said old w i k n same h e f = ap (λ (v : World). said_before (place_at v.places k)) (sym same) ∙ ap said_before (nothing_behind w.places k (let a = h in let b = f in omega (arith, a, b, e)))

pub none_taken : (old w : World) (i k n : ℕ) → w ≡ old → i ≡ k → n ≤ i → n ≡ length w.places → old ≡ output_taken old k
none_taken old w i k n same h e f = subst (λ (v : World). v ≡ output_taken v k) same (sym (ap (λ x. record w { places = taken_from w.places k x }) (nothing_behind w.places k (let a = h in let b = f in omega (arith, a, b, e)))))

pub said_there : (old w : World) (i k n : ℕ) (item x : Option SeatSession) → w ≡ old → i ≡ k → i < n → n ≡ length w.places → item ≡ get_or w.places i item → item ≡ x → said_before x ≡ said_before (place_at old.places k)
said_there old w i k n item x same h e f g s =
    let there = place_or w.places i item (omega (arith, e, f)) ∙ sym g ∙ s in
    ap said_before (sym there ∙ ap (λ j. place_at w.places j) h) ∙ ap (λ (v : World). said_before (place_at v.places k)) same

taken_case : (w : World) (i : ℕ) (place left : SeatSession) (item : Option SeatSession) → i < length w.places → item ≡ get_or w.places i item → item ≡ Some place → left ≡ record place { out = [] } → record w { places = set w.places i (Some left) } ≡ output_taken w i
taken_case w i place left item e g s t =
    let there = place_or w.places i item e ∙ sym g ∙ s in
    ap (λ xs. record w { places = xs }) (set_is w.places i left e ∙ ap (λ p. with_place w.places i p) t) ∙ sym (ap (λ x. record w { places = taken_from w.places i x }) there)

pub some_taken : (old w : World) (i k n : ℕ) (place left : SeatSession) (item : Option SeatSession) → w ≡ old → i ≡ k → i < n → n ≡ length w.places → item ≡ get_or w.places i item → item ≡ Some place → left ≡ record place { out = [] } → record w { places = set w.places i (Some left) } ≡ output_taken old k
some_taken old w i k n place left item same h e f g s t = taken_case w i place left item (omega (arith, e, f)) g s t ∙ ap (λ j. output_taken w j) h ∙ ap (λ (v : World). output_taken v k) same

same_case : (w : World) (i : ℕ) (item left : Option SeatSession) → i < length w.places → item ≡ get_or w.places i item → item ≡ None → left ≡ item → record w { places = set w.places i left } ≡ output_taken w i
same_case w i item left e g s t =
    let there = place_or w.places i item e ∙ sym g ∙ s in
    ap (λ xs. record w { places = xs }) (ap (λ x. set w.places i x) (t ∙ g) ∙ same_set w.places i item e) ∙ sym (ap (λ x. record w { places = taken_from w.places i x }) there)

pub nothing_taken : (old w : World) (i k n : ℕ) (item left : Option SeatSession) → w ≡ old → i ≡ k → i < n → n ≡ length w.places → item ≡ get_or w.places i item → item ≡ None → left ≡ item → record w { places = set w.places i left } ≡ output_taken old k
nothing_taken old w i k n item left same h e f g s t = same_case w i item left (omega (arith, e, f)) g s t ∙ ap (λ j. output_taken w j) h ∙ ap (λ (v : World). output_taken v k) same

-- ---- a session opens

pub now_none : (w old : World) (k : ℕ) (b : Bool) → w ≡ old → b ≡ false → b ≡ is_some (open_at old k) → open_at w k ≡ None
now_none w old k b v e g = not_open w k (sym e ∙ g ∙ ap (λ (u : World). is_some (open_at u k)) (sym v))

pub stood : (w : World) (xs : Places) (i k : ℕ) (item : Option SeatSession) → xs ≡ places_up_to w.places k → i ≡ k → item ≡ get_or xs i item → item ≡ place_at w.places k
stood w xs i k item e h g = g ∙ ap (λ ys. get_or ys i item) e ∙ ap (λ n. get_or (places_up_to w.places k) n item) h ∙ reached_there w.places k item

open_put : (w : World) (m : Machine) (xs : Places) (i k : ℕ) (x : Option SeatSession) (p : SeatSession) → xs ≡ places_up_to w.places k → i ≡ k → x ≡ Some p → record w { machine = m; places = set xs i x } ≡ with_scene w k (scene m p.talk p.out)
open_put w m xs i k x p e h s = ap (λ ys. record w { machine = m; places = ys }) (ap (λ ys. set ys i x) e ∙ ap (λ n. set (places_up_to w.places k) n x) h ∙ ap (λ y. set (places_up_to w.places k) k y) s ∙ reached_set w.places k p)

-- a session that opens at a seat, before its first turn
abbrev pub opening_at : World → ℕ → Option (List ℕ) → Scene
opening_at w seat user = scene w.machine (beginning w.host user) (said_before (place_at w.places seat))

pub starts : (w : World) (k : ℕ) (user : Option (List ℕ)) (host : List ℕ) (t : Talking) (x : Option SeatSession) → t ≡ beginning host user → host ≡ w.host → x ≡ place_at w.places k → scene w.machine t (said_before x) ≡ opening_at w k user
starts w k user host t x e h s = ap (λ y. scene w.machine y (said_before x)) (e ∙ ap (λ y. beginning y user) h) ∙ ap (λ y. scene w.machine (beginning w.host user) (said_before y)) s

opened : (w : World) (o : Occasion) (user : Option (List ℕ)) → open_at w o.seat ≡ None → did o false (world.Open user) w ≡ with_scene w o.seat (turn_of w.users o false (opening_at w o.seat user)).1
unfolding did
opened w o user e = ap (λ x. opened_at w o false user x) e

stays_open : (w : World) (k : ℕ) (s : Scene) → is_closed s.talk.stage ≡ false → is_some (open_at (with_scene w k s) k) ≡ true
stays_open w k s e =
    let p : SeatSession = record { talk = s.talk; out = s.out } in
    ap (λ x. is_some (if_open x)) (placed_there w.places k p) ∙ open_some p ∙ ap not e

pub open_made : (old w : World) (o : Occasion) (user : Option (List ℕ)) (first : Scene) (xs : Places) (i : ℕ) (x : Option SeatSession) (m : Machine) → w ≡ old → open_at w o.seat ≡ None → first ≡ opening_at w o.seat user → xs ≡ places_up_to w.places o.seat → i ≡ o.seat → HasBegun w.users o first x m
    → Opens o user old (record w { machine = m; places = set xs i x }) (Ok tt)
open_made old w o user first xs i x m same e f h n b =
    let put = open_put w m xs i o.seat x b.place h n b.stands in
    let s = scene m b.place.talk b.place.out in
    let made = ap (λ y. with_scene w o.seat y) (b.made ∙ ap (λ y. (turn_of w.users o false y).1) f) ∙ sym (opened w o user e) in
    subst (λ (y : World). Opens o user y (record w { machine = m; places = set xs i x }) (Ok tt)) same (e, put ∙ made, ap (λ (y : World). is_some (open_at y o.seat)) put ∙ stays_open w o.seat s b.going)

-- and one that doesn't open leaves all as it was
take_reached : (xs : Places) (k : ℕ) → take (length xs) (places_up_to xs k) ≡ xs
take_reached [] k = refl
take_reached (x ∷ xs) zero = ap (λ ys. x ∷ ys) (take-length xs)
take_reached (x ∷ xs) (suc k) = ap (λ ys. x ∷ ys) (take_reached xs k)

pub unopened : (old w : World) (o : Occasion) (user : Option (List ℕ)) (xs zs : Places) (i n : ℕ) (item x : Option SeatSession) (m : Machine) → w ≡ old → open_at w o.seat ≡ None → xs ≡ places_up_to w.places o.seat → i ≡ o.seat → item ≡ get_or xs i item → x ≡ item → zs ≡ take n (set xs i x) → n ≡ length w.places → m ≡ w.machine
    → Opens o user old (record w { machine = m; places = zs }) (Err faults.Memory)
unopened old w o user xs zs i n item x m same e h g f s t k l =
    let within : i < length xs = subst (λ j. j < length xs) (sym g) (subst (λ (ys : Places). o.seat < length ys) (sym h) (reached_within w.places o.seat)) in
    let kept = ap (λ y. set xs i y) (s ∙ f) ∙ same_set xs i item within ∙ h in
    let all : zs ≡ w.places = t ∙ ap (λ ys. take n ys) kept ∙ ap (λ j. take j (places_up_to w.places o.seat)) k ∙ take_reached w.places o.seat in
    let now : record w { machine = m; places = zs } ≡ w = ap (λ ys. record w { machine = m; places = ys }) all ∙ ap (λ y. record w { machine = y }) l in
    subst (λ (y : World). Opens o user y (record w { machine = m; places = zs }) (Err faults.Memory)) same (e, now)
