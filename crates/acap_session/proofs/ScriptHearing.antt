-- Turns at a seat of a world, one after another, and what is offered there.
use Rattle.std.proofs.Common.{◌≡◌, inl, inr, ℕ, ℤ, ◌+◌, ◌<◌, ◌≤◌, Bool, true, false, List, [], ◌∷◌, ◌++◌, drop, if◌then◌else◌, length, Option, Some, None, Ok, refl, sym, ap, subst, ◌∙◌, arith, length-drop}
use Rattle.std.specs.Option.{is_some}
use Rattle.acap_lexer.specs.Holding.{Held, held_limit}
use Rattle.acap_login.specs.Login.{User}
use Rattle.acap_session.specs.Places.{SeatSession, place_at, if_open}
use Rattle.acap_session.specs.Script.{turns, IsQuiet, IsQuietFor, IsOver, GoesOn, Hears, HasHeard, HasRoomAt, HasSettled, HasTurned, HasOffered, Listens, TakesSome, left_by}
use Rattle.acap_dialogue.specs.Session.{session_next, next_at, is_closed, is_hearing}
use Rattle.acap_dialogue.specs.Talking.{Talking}
use Rattle.acap_session.specs.Turning.{Scene, turn_of, IsTurn}
use Rattle.acap_session.specs.World.{World, Feeds, HasTurnedAt, at_open, did, open_at, scene_of, with_scene, went_on, takes}
use Rattle.acap_session.specs.World as world
use Rattle.acap_dialogue.specs.declared.next.Next.TheVariants as next
use Rattle.acap_session.specs.declared.occasion.Occasion.{Occasion}
use Rattle.acap_dialogue.specs.declared.stage.Stage.{Stage}
use Rattle.acap_dialogue.specs.declared.stage.Stage.TheVariants as stage
use Rattle.acap_session.specs.declared.occasion.Turn.{Turn}
use Rattle.acap_session.specs.declared.occasion.Turn.TheVariants as turn
use Rattle.acap_session.proofs.Placing.{placed_there}
use Rattle.acap_session.proofs.Turning.{turns_left, still, goes_on, held_kept, over, closed_is_quiet, fewer, room_left}
use Rattle.acap_session.proofs.WorldSeats.{opened}

-- ---- what stands at a seat after a turn

-- the place of a scene
abbrev pub place_of : Scene → SeatSession
place_of s = record { talk = s.talk; out = s.out }

turned : (old : World) (o : Occasion) (refused : Bool) (place : SeatSession) → open_at old o.seat ≡ Some place → did o refused world.Turn old ≡ with_scene old o.seat (turn_of old.users o refused (scene_of old place)).1
unfolding did
turned old o refused place e = ap (λ x. at_open old o.seat (λ s. (turn_of old.users o refused s).1) x) e

-- ---- fewer turns are left

abbrev pub unheard : Bool → ℕ
unheard true = 0
unheard false = 1

abbrev pub turns_at : Option SeatSession → ℕ
turns_at None = 0
turns_at (Some p) = 1 + (turns_left p.talk + unheard (is_hearing p.talk.stage))

turns_by : (p : SeatSession) (b : Bool) → is_closed p.talk.stage ≡ b → turns_at (if_open (Some p)) ≤ turns_at (Some p)
turns_by p true e = rw e (omega arith)
turns_by p false e = rw e (omega arith)

turns_if : (p : SeatSession) → turns_at (if_open (Some p)) ≤ turns_at (Some p)
turns_if p = turns_by p (is_closed p.talk.stage) refl

-- a session that doesn't hear takes nothing of what it holds
held_at : (users : List User) (nonce : ℕ) (clock : ℤ) (s : Stage) (t : Talking) → is_hearing s ≡ false → (next_at users nonce clock s t).1.held ≡ t.held
held_at users nonce clock stage.Ready t e = cc
held_at users nonce clock (stage.Challenged tag challenge) t e = cc
held_at users nonce clock s t e = refl

held_next : (users : List User) (nonce : ℕ) (clock : ℤ) (t : Talking) → is_hearing t.stage ≡ false → (session_next users nonce clock t).1.held ≡ t.held
unfolding session_next
held_next users nonce clock t e = held_at users nonce clock t.stage t e

said_fewer : (users : List User) (o : Occasion) (old new : Scene) (b : Bool) → is_hearing old.talk.stage ≡ b → IsTurn users o old turn.Said new → turns_at (Some (place_of new)) < turns_at (Some (place_of old))
said_fewer users o old new true e k =
    let less = fewer users o old new k (λ _. e) in
    rw (e, goes_on users o old new k) (omega (arith, less))
said_fewer users o old new false e k =
    let same : turns_left new.talk ≡ turns_left old.talk = ap (λ (h : Held). turns_left (record old.talk { held = h })) (held_kept users o old new k ∙ held_next users o.nonce o.clock old.talk e) in
    rw (e, goes_on users o old new k, same) (omega arith)

turn_fewer : (users : List User) (o : Occasion) (old new : Scene) (came : Turn) → true ≡ went_on came → IsTurn users o old came new → turns_at (if_open (Some (place_of new))) < turns_at (Some (place_of old))
turn_fewer users o old new turn.More e k = absurd cc
turn_fewer users o old new turn.Said e k = omega (arith, turns_if (place_of new), said_fewer users o old new (is_hearing old.talk.stage) refl k)
turn_fewer users o old new turn.Closed e k = rw (over users o old new k) (omega arith)

fewer_at : (o : Occasion) (old new : World) → HasTurnedAt o true old new → turns_at (open_at new o.seat) < turns_at (open_at old o.seat)
fewer_at o old new h =
    let x = turn_of old.users o h.refused (scene_of old h.place) in
    let there : place_at new.places o.seat ≡ Some (place_of x.1) = ap (λ (w : World). place_at w.places o.seat) (h.is ∙ turned old o h.refused h.place h.there) ∙ placed_there old.places o.seat (place_of x.1) in
    let less = turn_fewer old.users o (scene_of old h.place) x.1 x.0 h.came (record { refused = h.refused; is = refl }) in
    rw (ap if_open there, h.there) less

-- ---- turns so far

pub record SomeTurns (o : Occasion) (old new : World) : Type 0 where
  pub refused : List Bool
  pub is : new ≡ turns o refused old

pub no_turns : (o : Occasion) (w : World) → SomeTurns o w w
no_turns o w = record { refused = []; is = refl }

turns_snoc : (o : Occasion) (a : List Bool) (refused : Bool) (w : World) → turns o (a ++ refused ∷ []) w ≡ did o refused world.Turn (turns o a w)
turns_snoc o [] refused w = refl
turns_snoc o (x ∷ a) refused w = turns_snoc o a refused (did o x world.Turn w)

pub one_turn : (o : Occasion) (goes : Bool) (old mid new : World) → SomeTurns o old mid → HasTurnedAt o goes mid new → SomeTurns o old new
one_turn o goes old mid new a h = record {
  refused = a.refused ++ h.refused ∷ [];
  is = h.is ∙ ap (λ w. did o h.refused world.Turn w) a.is ∙ sym (turns_snoc o a.refused h.refused old);
}

-- ---- nothing is next

quiet_turn : (users : List User) (o : Occasion) (old new : Scene) (came : Turn) → false ≡ went_on came → IsTurn users o old came new → (session_next users o.nonce o.clock new.talk).0 ≡ next.More
quiet_turn users o old new turn.More e k =
    let s = still users o old new k in
    ap (λ (q : Scene). (session_next users o.nonce o.clock q.talk).0) s.same ∙ s.quiet
quiet_turn users o old new turn.Said e k = absurd cc
quiet_turn users o old new turn.Closed e k = absurd cc

settled_turn : (o : Occasion) (old mid new : World) → SomeTurns o old mid → HasTurnedAt o false mid new → HasSettled o old new
settled_turn o old mid new a h =
    let x = turn_of mid.users o h.refused (scene_of mid h.place) in
    let left : new ≡ with_scene mid o.seat x.1 = h.is ∙ turned mid o h.refused h.place h.there in
    let quiet : IsQuietFor o mid (Some (place_of x.1)) = quiet_turn mid.users o (scene_of mid h.place) x.1 x.0 h.came (record { refused = h.refused; is = refl }) in
    let b = one_turn o false old mid new a h in
    record {
      refused = b.refused;
      is = b.is;
      quiet = subst (λ (w : World). IsQuiet o w) (sym left) (subst (λ (p : Option SeatSession). IsQuietFor o mid p) (sym (placed_there mid.places o.seat (place_of x.1))) quiet);
    }

closed_by : (p : SeatSession) (b : Bool) → is_closed p.talk.stage ≡ b → if_open (Some p) ≡ None → is_closed p.talk.stage ≡ true
closed_by p true e f = e
closed_by p false e f = absurd (let k = rw e at f in cc)

pub quiet_none : (o : Occasion) (w : World) (x : Option SeatSession) → if_open x ≡ None → IsQuietFor o w x
quiet_none o w None e = tt
quiet_none o w (Some p) e = closed_is_quiet w.users o.nonce o.clock p.talk (closed_by p (is_closed p.talk.stage) refl e)

settled_none : (o : Occasion) (old mid new : World) → SomeTurns o old mid → open_at mid o.seat ≡ None → new ≡ mid → HasSettled o old new
settled_none o old mid new a e f = record {
  refused = a.refused;
  is = f ∙ a.is;
  quiet = subst (λ (w : World). IsQuiet o w) (sym f) (quiet_none o mid (place_at mid.places o.seat) e);
}

pub settled : (o : Occasion) (goes : Bool) (old mid new : World) → SomeTurns o old mid → goes ≡ false → HasTurned o goes mid new → HasSettled o old new
settled o goes old mid new a e (inl h) = settled_turn o old mid new a (subst (λ g. HasTurnedAt o g mid new) e h)
settled o goes old mid new a e (inr h) = settled_none o old mid new a h.1 h.2

going : (o : Occasion) (goes : Bool) (mid new : World) → goes ≡ true → HasTurned o goes mid new → HasTurnedAt o true mid new
going o goes mid new e (inl h) = subst (λ g. HasTurnedAt o g mid new) e h
going o goes mid new e (inr h) = absurd (let k : true ≡ false = sym e ∙ h.0 in cc)

pub settles : (o : Occasion) (goes : Bool) (old mid new : World) → SomeTurns o old mid → goes ≡ true → HasTurned o goes mid new → SomeTurns o old new
settles o goes old mid new a e h = one_turn o true old mid new a (going o goes mid new e h)

pub settles_fewer : (o : Occasion) (goes : Bool) (mid new : World) → goes ≡ true → HasTurned o goes mid new → turns_at (open_at new o.seat) < turns_at (open_at mid o.seat)
settles_fewer o goes mid new e h = fewer_at o mid new (going o goes mid new e h)

-- ---- a session that listens

-- what is done to it leaves it listening, if it is open then
abbrev Keeps : (Scene → Scene) → Type 0
Keeps f = (s : Scene) → is_hearing s.talk.stage ≡ true → is_closed (f s).talk.stage ≡ false → is_hearing (f s).talk.stage ≡ true

open_is : (y p : SeatSession) (b : Bool) → is_closed y.talk.stage ≡ b → (if b then None else Some y) ≡ Some p → (y ≡ p) × (is_closed y.talk.stage ≡ false)
open_is y p true c e = absurd cc
open_is y p false c e = (cc, c)

listens_set : (w : World) (k : ℕ) (s : Scene) → (is_closed s.talk.stage ≡ false → is_hearing s.talk.stage ≡ true) → Listens k (with_scene w k s)
listens_set w k s h p e =
    let there = sym (ap if_open (placed_there w.places k (place_of s))) ∙ e in
    let is = open_is (place_of s) p (is_closed s.talk.stage) refl there in
    ap (λ (y : SeatSession). is_hearing y.talk.stage) (sym is.0) ∙ h is.1

listens_step : (w : World) (k : ℕ) (f : Scene → Scene) (now : Option SeatSession) → open_at w k ≡ now → Keeps f → Listens k w → Listens k (at_open w k f now)
listens_step w k f None e keeps h = h
listens_step w k f (Some p) e keeps h = listens_set w k (f (scene_of w p)) (λ o. keeps (scene_of w p) (h p e) o)

turn_keeps : (users : List User) (o : Occasion) (s new : Scene) (came : Turn) → IsTurn users o s came new → is_hearing s.talk.stage ≡ true → is_closed new.talk.stage ≡ false → is_hearing new.talk.stage ≡ true
turn_keeps users o s new turn.More k h c = ap (λ (q : Scene). is_hearing q.talk.stage) (still users o s new k).same ∙ h
turn_keeps users o s new turn.Said k h c = goes_on users o s new k
turn_keeps users o s new turn.Closed k h c = absurd (let both : true ≡ false = sym (over users o s new k) ∙ c in cc)

listens_turn : (o : Occasion) (refused : Bool) (w : World) → Listens o.seat w → Listens o.seat (did o refused world.Turn w)
unfolding did
listens_turn o refused w h =
    listens_step w o.seat (λ s. (turn_of w.users o refused s).1) (open_at w o.seat) refl
    (λ s k c. turn_keeps w.users o s (turn_of w.users o refused s).1 (turn_of w.users o refused s).0 (record { refused = refused; is = refl }) k c) h

pub listens_piece : (o : Occasion) (piece : List ℕ) (w : World) → Listens o.seat w → Listens o.seat (did o false (world.Piece piece) w)
unfolding did
listens_piece o piece w h = listens_step w o.seat (takes piece) (open_at w o.seat) refl (λ s k c. k) h

pub listens_turns : (o : Occasion) (refused : List Bool) (w : World) → Listens o.seat w → Listens o.seat (turns o refused w)
listens_turns o [] w h = h
listens_turns o (x ∷ refused) w h = listens_turns o refused (did o x world.Turn w) (listens_turn o x w h)

room_by : (o : Occasion) (w : World) (x : Option SeatSession) (p : SeatSession) → x ≡ Some p → IsQuietFor o w x → is_hearing p.talk.stage ≡ true → length p.talk.held.text < held_limit
room_by o w None p e q h = absurd cc
room_by o w (Some y) p e q h = let same : y ≡ p = cc in room_left w.users o.nonce o.clock p.talk h (subst (λ (z : SeatSession). IsQuietFor o w (Some z)) same q)

-- and where nothing is next it has room
pub room_at : (o : Occasion) (w : World) → Listens o.seat w → IsQuiet o w → HasRoomAt o.seat w
room_at o w h q p e = room_by o w (place_at w.places o.seat) p (opened (place_at w.places o.seat) p e).0 q (h p e)

-- it listens still, and takes some of what is offered next
pub record GoesOnListening (o : Occasion) (w : World) : Type 0 where
  pub listens : Listens o.seat w
  pub room : HasRoomAt o.seat w

pub listens_on : (o : Occasion) (piece rest : List ℕ) (old new : World) → Listens o.seat old → HasOffered o piece old new rest → GoesOnListening o new
listens_on o piece rest old new h k =
    let on = subst (Listens o.seat) (sym k.settled.is) (listens_turns o k.settled.refused (did o false (world.Piece piece) old) (listens_piece o piece old h)) in
    record { listens = on; room = room_at o new on k.settled.quiet }

-- ---- what is offered

-- where there is room some is taken
pub takes_some : (seat : ℕ) (piece : List ℕ) (n : ℕ) (old mid : World) → Feeds seat piece old mid (Ok n) → TakesSome seat piece old n
takes_some seat piece n old mid f room some = let less = room f.0 f.1 in let is = f.2 in omega (arith, less, some, is)

pub piece_same : (o : Occasion) (refused : Bool) (piece : List ℕ) (w : World) → did o refused (world.Piece piece) w ≡ did o false (world.Piece piece) w
unfolding did
piece_same o refused piece w = refl

pub fewer_behind : (rest behind : List ℕ) (n : ℕ) → behind ≡ drop n rest → 0 < length rest → 0 < n → length behind < length rest
fewer_behind rest behind n e some taken = omega (arith, ap (λ (ys : List ℕ). length ys) e, length-drop n rest, some, taken)

pub offered : (o : Occasion) (piece : List ℕ) (n : ℕ) (old mid new : World) → Feeds o.seat piece old mid (Ok n) → HasSettled o mid new → (is_some (open_at old o.seat) ≡ true) × HasOffered o piece old new (drop n piece)
offered o piece n old mid new f s =
    let step = f.3 o refl in
    let is : mid ≡ did o false (world.Piece piece) old = step.is ∙ piece_same o step.refused piece old in (
      ap is_some f.1,
      record {
        rest_is = ap (λ k. drop k piece) f.2 ∙ sym (ap (λ x. left_by x piece) f.1);
        settled = subst (λ (w : World). HasSettled o w new) is s;
      },
    )

hears_over : (o : Occasion) (piece rest : List ℕ) (old new : World) (h : HasOffered o piece old new rest) → IsOver o.seat rest new → Hears (h.settled.refused ∷ []) o piece old new
hears_over o piece rest old new h done =
    let e = h.settled.is in
    let w = turns o h.settled.refused (did o false (world.Piece piece) old) in
    (subst (λ (v : World). IsQuiet o v) e h.settled.quiet, inl (subst (λ q. IsOver o.seat q w) h.rest_is (subst (λ (v : World). IsOver o.seat rest v) e done), refl, e))

hears_more : (o : Occasion) (piece rest : List ℕ) (old new last : World) (later : List (List Bool)) (h : HasOffered o piece old new rest) → GoesOn o.seat rest new → Hears later o rest new last → Hears (h.settled.refused ∷ later) o piece old last
hears_more o piece rest old new last later h goes more =
    let e = h.settled.is in
    let w = turns o h.settled.refused (did o false (world.Piece piece) old) in
    (subst (λ (v : World). IsQuiet o v) e h.settled.quiet, inr (subst (λ q. GoesOn o.seat q w) h.rest_is (subst (λ (v : World). GoesOn o.seat rest v) e goes), subst (λ q. Hears later o q w last) h.rest_is (subst (λ (v : World). Hears later o rest v last) e more)))

-- what was offered so far, with what is left
pub record IsHearing (o : Occasion) (piece rest : List ℕ) (old new : World) : Type 0 where
  pub may : is_some (open_at old o.seat) ≡ true
  pub ended : IsOver o.seat rest new → HasHeard o piece old new
  pub more : (later : List (List Bool)) (last : World) → GoesOn o.seat rest new → Hears later o rest new last → HasHeard o piece old last

pub offered_first : (o : Occasion) (piece rest : List ℕ) (n : ℕ) (old new : World) → rest ≡ drop n piece → (is_some (open_at old o.seat) ≡ true) × HasOffered o piece old new (drop n piece) → IsHearing o piece rest old new
offered_first o piece rest n old new e k =
    let h : HasOffered o piece old new rest = subst (λ q. HasOffered o piece old new q) (sym e) k.1 in
    record {
      may = k.0;
      ended = λ done. record { refused = h.settled.refused ∷ []; heard = hears_over o piece rest old new h done };
      more = λ later last goes m. record { refused = h.settled.refused ∷ later; heard = hears_more o piece rest old new last later h goes m };
    }

pub offered_again : (o : Occasion) (piece rest behind : List ℕ) (n : ℕ) (old mid new : World) → IsHearing o piece rest old mid → GoesOn o.seat rest mid → behind ≡ drop n rest → (is_some (open_at mid o.seat) ≡ true) × HasOffered o rest mid new (drop n rest) → IsHearing o piece behind old new
offered_again o piece rest behind n old mid new a goes e k =
    let h : HasOffered o rest mid new behind = subst (λ q. HasOffered o rest mid new q) (sym e) k.1 in
    record {
      may = a.may;
      ended = λ done. a.more (h.settled.refused ∷ []) new goes (hears_over o rest behind mid new h done);
      more = λ later last on m. a.more (h.settled.refused ∷ later) last goes (hears_more o rest behind mid new last later h on m);
    }
