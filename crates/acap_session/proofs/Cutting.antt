-- How a client's octets are cut makes no difference: what is next of held octets is next of more octets too.
use Rattle.std.proofs.Common.{◌≡◌, ◌⊎◌, inl, inr, ℕ, zero, suc, ℤ, ◌+◌, ◌-◌, min, Bool, true, false, if◌then◌else◌, List, [], ◌∷◌, ◌++◌, length, take, Option, Some, None, refl, sym, ap, subst, ◌∙◌, arith, append_assoc}
use Rattle.std.specs.Prelude.{replicate, option_map}
use Rattle.std.proofs.lemmas.List.{append-nil, drop-append-le, length-take, length-append, take_all, take_min}
use Rattle.acap_lexer.specs.Held.{next_of, next_by, held_behind}
use Rattle.acap_lexer.specs.Holding.{Held, held_limit}
use Rattle.acap_lexer.specs.Owing.{with_more}
use Rattle.acap_lexer.specs.Stream.{progress}
use Rattle.acap_lexer.specs.declared.fault.LexFault.{LexFault}
use Rattle.acap_lexer.specs.declared.lexed.Lexed.{Lexed}
use Rattle.acap_lexer.specs.declared.lexed.Lexed.TheVariants as lexed
use Rattle.acap_lexer.specs.declared.lexed.Mode.{Mode}
use Rattle.acap_lexer.specs.declared.lexed.Mode.TheVariants as mode
use Rattle.acap_lexer.proofs.Asking.{next_cases, Continues, Lacks, Finds}
use Rattle.acap_lexer.proofs.ProgressLaws.{keeps_items, keeps_waits, takes_octets}
use Rattle.acap_login.specs.Login.{User}
use Rattle.acap_dialogue.specs.Hearing.{response_to, heard_answer}
use Rattle.acap_session.specs.Laws.{Move, Comes, Turns, octets_of_moves, without_octets, with_emptied, HasRoomFor, Alike, came_of, steps_on, HaveRoom, IsHeard, as_one, PiecesJoin, IsKept, TurnsKeep, CuttingLaw, IsJoined, JoiningLaw}
use Rattle.acap_session.specs.Piping.{hears}
use Rattle.acap_session.specs.Places.{SeatSession, Places, place_at, with_place, if_open}
use Rattle.acap_session.specs.Script.{IsQuiet, IsQuietFor}
use Rattle.acap_dialogue.specs.Session.{listening, session_next, next_at, after_answer, comes_to, is_closed}
use Rattle.acap_dialogue.specs.Talking.{Talking}
use Rattle.acap_session.specs.Turning.{Scene, turn_by, turn_of}
use Rattle.acap_session.specs.World as world
use Rattle.acap_session.specs.World.{World, at_open, did, open_at, world_after, room_of, scene_of, takes, with_scene, went_on}
use Rattle.acap_dialogue.specs.declared.next.Next.{Next}
use Rattle.acap_dialogue.specs.declared.next.Next.TheVariants as next
use Rattle.acap_session.specs.declared.occasion.Occasion.{Occasion}
use Rattle.acap_dialogue.specs.declared.stage.Stage.{Stage}
use Rattle.acap_dialogue.specs.declared.stage.Stage.TheVariants as stage
use Rattle.acap_session.specs.declared.occasion.Turn.{Turn}
use Rattle.acap_session.specs.declared.occasion.Turn.TheVariants as turn
use Rattle.acap_session.proofs.Alone.{place_of}
use Rattle.acap_session.proofs.Placing.{placed_there, same_placed}
use Rattle.acap_session.proofs.Turning.{still, closed_is_quiet}

-- ---- the lexer

-- the answer to more octets is the same, with these behind what is held then
abbrev Keeps : Mode → Held → List ℕ → Type 0
Keeps m h b = next_of m (with_more h b) ≡ ((next_of m h).0, with_more (next_of m h).1 b)

kept : (m : Mode) (h : Held) (b : List ℕ) (x : Lexed × Held) → next_of m h ≡ x → next_of m (with_more h b) ≡ (x.0, with_more x.1 b) → Keeps m h b
kept m h b x e f = f ∙ ap (λ (r : Lexed × Held). let k : Lexed × Held = (r.0, with_more r.1 b) in k) (sym e)

-- by what is next of fewer octets, and of more
abbrev Cases : Mode → Held → Type 0
Cases m h = Continues m h (next_of m h) ⊎ (Lacks m h (next_of m h) ⊎ Finds m h (next_of m h))

by_cases : (m : Mode) (h : Held) (b : List ℕ) → ((next_of m h).0 ≡ lexed.More → ⊥) → Cases m h → Cases m (with_more h b) → Keeps m h b
by_cases m h b some (inl c) (inl d) = kept m h b (lexed.Plus, record { text = h.text; told = h.told + 1; fatal = None }) c.is d.is
by_cases m h b some (inl c) (inr (inl l)) = absurd (let x = c.due in let y = l.told in omega (arith, x, y, keeps_waits m h.text b))
by_cases m h b some (inl c) (inr (inr x)) = absurd (let y = c.due in let z = x.told in omega (arith, y, z, keeps_waits m h.text b))
by_cases m h b some (inr (inl l)) d = absurd (some (ap (λ (r : Lexed × Held). r.0) l.is))
by_cases m h b some (inr (inr x)) (inl d) = absurd (let y = d.due in let z = x.told in omega (arith, y, z, (keeps_items m h.text b x.item x.some).1))
by_cases m h b some (inr (inr x)) (inr (inl l)) = absurd (let none : None ≡ Some x.item = sym l.none ∙ (keeps_items m h.text b x.item x.some).0 in cc)
by_cases m h b some (inr (inr x)) (inr (inr y)) =
    let both : Some y.item ≡ Some x.item = sym y.some ∙ (keeps_items m h.text b x.item x.some).0 in
    let same : y.item ≡ x.item = cc in
    let behind = drop-append-le x.item.1 h.text b (takes_octets m h.text x.item x.some).2 in
    kept m h b (x.item.0, held_behind x.item h.text) x.is
    (y.is ∙ ap (λ (i : Lexed × ℕ). let r : Lexed × Held = (i.0, held_behind i (h.text ++ b)) in r) same ∙ ap (λ (ts : List ℕ). let r : Lexed × Held = (x.item.0, record (held_behind x.item h.text) { text = ts }) in r) behind)

lexer_keeps : (m : Mode) (h : Held) (b : List ℕ) (f : Option LexFault) → h.fatal ≡ f → ((next_of m h).0 ≡ lexed.More → ⊥) → Keeps m h b
unfolding next_of
lexer_keeps m h b (Some f) e some = kept m h b (lexed.Fatal f, h) (ap (λ x. next_by x h (progress m h.text)) e) (ap (λ x. next_by x (with_more h b) (progress m (h.text ++ b))) e)
lexer_keeps m h b None e some = by_cases m h b some (next_cases m h e) (next_cases m (with_more h b) e)

-- ---- what is next for a session

abbrev behind : List ℕ → Talking → Talking
behind b t = record t { held = with_more t.held b }

next_keeps : (users : List User) (nonce : ℕ) (clock : ℤ) (s : Stage) (t : Talking) (b : List ℕ) → ((next_at users nonce clock s t).0 ≡ next.More → ⊥)
    → next_at users nonce clock s (behind b t) ≡ ((next_at users nonce clock s t).0, behind b (next_at users nonce clock s t).1)
unfolding response_to heard_answer
next_keeps users nonce clock stage.Opening t b some = refl
next_keeps users nonce clock stage.Ready t b some =
    ap (λ (r : Lexed × Held). comes_to (record t { held = r.1 }) (response_to (listening t nonce clock) r.0)) (lexer_keeps mode.Command t.held b t.held.fatal refl (λ e. some (ap (λ x. (response_to (listening t nonce clock) x).0) e)))
next_keeps users nonce clock (stage.Challenged tag challenge) t b some =
    ap (λ (r : Lexed × Held). comes_to (record t { held = r.1 }) (heard_answer users tag challenge r.0)) (lexer_keeps mode.Answer t.held b t.held.fatal refl (λ e. some (ap (λ x. (heard_answer users tag challenge x).0) e)))
next_keeps users nonce clock s t b some = absurd (some refl)

-- what is next of fewer octets, if it is something, is next of more
pub next_kept : (users : List User) (nonce : ℕ) (clock : ℤ) (s : Scene) (b : List ℕ) → ((session_next users nonce clock s.talk).0 ≡ next.More → ⊥) → (session_next users nonce clock (hears b s).talk).0 ≡ (session_next users nonce clock s.talk).0
unfolding session_next
next_kept users nonce clock s b some = ap (λ (x : Next × Talking). x.0) (next_keeps users nonce clock s.talk.stage s.talk b some)

-- ---- a turn

by_next_keeps : (o : Occasion) (refused : Bool) (s : Scene) (n : Next) (t : Talking) (b : List ℕ)
    → turn_by o refused (hears b s) (n, behind b t) ≡ ((turn_by o refused s (n, t)).0, hears b (turn_by o refused s (n, t)).1)
unfolding after_answer
by_next_keeps o refused s next.More t b = refl
by_next_keeps o refused s n t b = refl

pub turn_keeps : (users : List User) (o : Occasion) (refused : Bool) (s : Scene) (b : List ℕ) → went_on (turn_of users o refused s).0 ≡ true
    → turn_of users o refused (hears b s) ≡ ((turn_of users o refused s).0, hears b (turn_of users o refused s).1)
unfolding turn_of session_next
turn_keeps users o refused s b e =
    let x = session_next users o.nonce o.clock s.talk in
    let some : x.0 ≡ next.More → ⊥ = λ m. (let k : false ≡ true = sym (ap (λ y. went_on (turn_by o refused s (y, x.1)).0) m) ∙ e in cc) in
    ap (turn_by o refused (hears b s)) (next_keeps users o.nonce o.clock s.talk.stage s.talk b some) ∙ by_next_keeps o refused s x.0 x.1 b

-- one that comes to nothing changes nothing
pub nothing_changes : (users : List User) (o : Occasion) (refused : Bool) (s : Scene) (c : Turn) → (turn_of users o refused s).0 ≡ c → went_on c ≡ false → (turn_of users o refused s).1 ≡ s
nothing_changes users o refused s turn.More e f = (still users o s (turn_of users o refused s).1 (record { refused = refused; is = λ i. (sym e i, (turn_of users o refused s).1) })).same
nothing_changes users o refused s turn.Said e f = absurd cc
nothing_changes users o refused s turn.Closed e f = absurd cc

-- nothing is next
abbrev pub IsStill : List User → Occasion → Scene → Type 0
IsStill users o s = (session_next users o.nonce o.clock s.talk).0 ≡ next.More

pub still_stays : (users : List User) (o : Occasion) (refused : Bool) (s : Scene) → IsStill users o s → (turn_of users o refused s).1 ≡ s
unfolding turn_of
still_stays users o refused s e = nothing_changes users o refused s turn.More (ap (λ n. (turn_by o refused s (n, (session_next users o.nonce o.clock s.talk).1)).0) e) refl

closed_still : (users : List User) (o : Occasion) (s : Scene) → is_closed s.talk.stage ≡ true → IsStill users o s
closed_still users o s e = closed_is_quiet users o.nonce o.clock s.talk e

-- ---- octets that come to a session without a limit, with turns between them

abbrev freely : List User → Occasion → List Move → Scene → Scene
freely users o [] s = s
freely users o (Comes octets ∷ moves) s = freely users o moves (hears octets s)
freely users o (Turns ∷ moves) s = freely users o moves (turn_of users o false s).1

abbrev turned : List User → Occasion → ℕ → Scene → Scene
turned users o n s = freely users o (replicate n Turns) s

abbrev with_text : Scene → List ℕ → Scene
with_text s text = record s { talk = record s.talk { held = record s.talk.held { text = text } } }

-- all octets come first, before some turns
abbrev ComesFirst : List User → Occasion → List ℕ → Scene → Scene → Type 0
ComesFirst users o octets s end = (n : ℕ) × (turned users o n (hears octets s) ≡ end)

before_turn : (users : List User) (o : Occasion) (octets : List ℕ) (s end : Scene) (b : Bool) → went_on (turn_of users o false s).0 ≡ b → ComesFirst users o octets (turn_of users o false s).1 end → ComesFirst users o octets s end
before_turn users o octets s end true e r = (suc r.0, ap (λ (x : Turn × Scene). turned users o r.0 x.1) (turn_keeps users o false s octets e) ∙ r.1)
before_turn users o octets s end false e r = (r.0, ap (λ q. turned users o r.0 (hears octets q)) (sym (nothing_changes users o false s (turn_of users o false s).0 refl e)) ∙ r.1)

comes_first : (users : List User) (o : Occasion) (moves : List Move) (s : Scene) → ComesFirst users o (octets_of_moves moves) s (freely users o moves s)
comes_first users o [] s = (0, ap (with_text s) (append-nil s.talk.held.text))
comes_first users o (Comes x ∷ moves) s = let r = comes_first users o moves (hears x s) in (r.0, ap (λ ts. turned users o r.0 (with_text s ts)) (sym (append_assoc s.talk.held.text x (octets_of_moves moves))) ∙ r.1)
comes_first users o (Turns ∷ moves) s = before_turn users o (octets_of_moves moves) s _ (went_on (turn_of users o false s).0) refl (comes_first users o moves (turn_of users o false s).1)

-- where nothing is next more turns change nothing
more_turns : (users : List User) (o : Occasion) (n : ℕ) (s : Scene) → IsStill users o s → turned users o n s ≡ s
more_turns users o zero s e = refl
more_turns users o (suc n) s e = ap (turned users o n) (still_stays users o false s e) ∙ more_turns users o n s e

one_end : (users : List User) (o : Occasion) (m n : ℕ) (s : Scene) → IsStill users o (turned users o m s) → IsStill users o (turned users o n s) → turned users o m s ≡ turned users o n s
one_end users o zero n s e f = sym (more_turns users o n s e)
one_end users o (suc m) zero s e f = more_turns users o (suc m) s f
one_end users o (suc m) (suc n) s e f = one_end users o m n (turn_of users o false s).1 e f

ends_meet : (users : List User) (o : Occasion) (a b : List Move) (s : Scene) → octets_of_moves a ≡ octets_of_moves b → IsStill users o (freely users o a s) → IsStill users o (freely users o b s) → freely users o a s ≡ freely users o b s
ends_meet users o a b s e f g =
    let x = comes_first users o a s in
    let y = comes_first users o b s in
    let z : turned users o y.0 (hears (octets_of_moves a) s) ≡ freely users o b s = ap (λ ts. turned users o y.0 (hears ts s)) e ∙ y.1 in
    sym x.1 ∙ one_end users o x.0 y.0 (hears (octets_of_moves a) s) (subst (IsStill users o) (sym x.1) f) (subst (IsStill users o) (sym z) g) ∙ z

-- a closed session holds all octets that come
closed_hears : (users : List User) (o : Occasion) (moves : List Move) (s : Scene) → is_closed s.talk.stage ≡ true → freely users o moves s ≡ hears (octets_of_moves moves) s
closed_hears users o moves s e = let x = comes_first users o moves s in sym x.1 ∙ more_turns users o x.0 (hears (octets_of_moves moves) s) (closed_still users o (hears (octets_of_moves moves) s) e)

-- ---- a world whose session at a seat is set

placed_twice : (xs : Places) (k : ℕ) (p q : SeatSession) → with_place (with_place xs k p) k q ≡ with_place xs k q
placed_twice [] zero p q = refl
placed_twice [] (suc k) p q = ap (λ ys. None ∷ ys) (placed_twice [] k p q)
placed_twice (x ∷ xs) zero p q = refl
placed_twice (x ∷ xs) (suc k) p q = ap (λ ys. x ∷ ys) (placed_twice xs k p q)

set_twice : (w : World) (k : ℕ) (s z : Scene) → with_scene (with_scene w k s) k z ≡ with_scene w k z
set_twice w k s z = ap (λ xs. record w { machine = z.machine; places = xs }) (placed_twice w.places k (place_of s) (place_of z))

there : (w : World) (k : ℕ) (s : Scene) → place_at (with_scene w k s).places k ≡ Some (place_of s)
there w k s = placed_there w.places k (place_of s)

open_is : (w : World) (k : ℕ) (s : Scene) (b : Bool) → is_closed s.talk.stage ≡ b → open_at (with_scene w k s) k ≡ (if b then None else Some (place_of s))
open_is w k s b e = ap if_open (there w k s) ∙ ap (λ x. if x then None else Some (place_of s)) e

-- no session is open, or an open one is set
abbrev Starts : World → ℕ → Type 0
Starts w k = (open_at w k ≡ None) ⊎ ((s : Scene) × (w ≡ with_scene w k s) × (is_closed s.talk.stage ≡ false))

starts_by : (w : World) (k : ℕ) (p : SeatSession) (b : Bool) → place_at w.places k ≡ Some p → is_closed p.talk.stage ≡ b → Starts w k
starts_by w k p true e f = inl (ap if_open e ∙ ap (λ x. if x then None else Some p) f)
starts_by w k p false e f = inr (scene_of w p, sym (ap (λ xs. record w { places = xs }) (same_placed w.places k p e)), f)

starts_at : (w : World) (k : ℕ) (x : Option SeatSession) → place_at w.places k ≡ x → Starts w k
starts_at w k None e = inl (ap if_open e)
starts_at w k (Some p) e = starts_by w k p (is_closed p.talk.stage) e refl

starts : (w : World) (k : ℕ) → Starts w k
starts w k = starts_at w k (place_at w.places k) refl

turn_none : (w : World) (o : Occasion) (refused : Bool) → open_at w o.seat ≡ None → did o refused world.Turn w ≡ w
unfolding did
turn_none w o refused e = ap (at_open w o.seat (λ z. (turn_of w.users o refused z).1)) e

pub piece_none : (w : World) (o : Occasion) (k : ℕ) (refused : Bool) (x : List ℕ) → o.seat ≡ k → open_at w k ≡ None → did o refused (world.Piece x) w ≡ w
unfolding did
piece_none w o k refused x h e = ap (λ j. at_open w j (takes x) (open_at w j)) h ∙ ap (at_open w k (takes x)) e

turn_set : (w : World) (o : Occasion) (refused : Bool) (s : Scene) → is_closed s.talk.stage ≡ false → did o refused world.Turn (with_scene w o.seat s) ≡ with_scene w o.seat (turn_of w.users o refused s).1
unfolding did
turn_set w o refused s e = ap (at_open (with_scene w o.seat s) o.seat (λ z. (turn_of w.users o refused z).1)) (open_is w o.seat s false e) ∙ set_twice w o.seat s (turn_of w.users o refused s).1

piece_set : (w : World) (o : Occasion) (k : ℕ) (refused : Bool) (x : List ℕ) (s : Scene) → o.seat ≡ k → is_closed s.talk.stage ≡ false → did o refused (world.Piece x) (with_scene w k s) ≡ with_scene w k (takes x s)
unfolding did
piece_set w o k refused x s h e =
    ap (λ j. at_open (with_scene w k s) j (takes x) (open_at (with_scene w k s) j)) h ∙ ap (at_open (with_scene w k s) k (takes x)) (open_is w k s false e) ∙ set_twice w k s (takes x s)

-- a piece that there is room for
piece_heard : (w : World) (o : Occasion) (k : ℕ) (refused : Bool) (x : List ℕ) (s : Scene) → o.seat ≡ k → is_closed s.talk.stage ≡ false → HasRoomFor x (open_at (with_scene w k s) k) → did o refused (world.Piece x) (with_scene w k s) ≡ with_scene w k (hears x s)
piece_heard w o k refused x s h e r =
    let all = ap (λ n. take n x) (subst (HasRoomFor x) (open_is w k s false e) r) ∙ take_all (length x) x (omega arith) in
    piece_set w o k refused x s h e ∙ ap (λ ts. with_scene w k (with_text s (s.talk.held.text ++ ts))) all

-- ---- pieces join

take_cut : (xs ys : List ℕ) (j : ℕ) → take j (xs ++ ys) ≡ take j xs ++ take (j - length xs) ys
take_cut [] ys j = let e : j ≡ j - 0 = omega arith in ap (λ i. take i ys) e ∙ sym (ap (λ ts. ts ++ take (j - 0) ys) (take_all j [] (omega arith)))
take_cut (x ∷ xs) ys zero = let e : 0 ≡ 0 - suc (length xs) = omega arith in ap (λ i. take i ys) e
take_cut (x ∷ xs) ys (suc j) = let e : suc j - suc (length xs) ≡ j - length xs = omega arith in ap (λ ts. x ∷ ts) (take_cut xs ys j) ∙ ap (λ i. x ∷ take j xs ++ take i ys) (sym e)

two_takes : (a b text : List ℕ) (n m k : ℕ) → n ≡ min (length a) (held_limit - length text) → m ≡ min (length b) (held_limit - length (text ++ take n a)) → k ≡ min (length (a ++ b)) (held_limit - length text)
    → (text ++ take n a) ++ take m b ≡ text ++ take k (a ++ b)
two_takes a b text n m k e f g =
    let first : min k (length a) ≡ n = omega (arith, e, g, length-append a b) in
    let second : k - length a ≡ m = omega (arith, e, f, g, length-append a b, length-append text (take n a), length-take n a) in
    append_assoc text (take n a) (take m b) ∙ ap (λ ts. text ++ ts) (sym (take_cut a b k ∙ ap (λ ts. ts ++ take (k - length a) b) (sym (take_min k a)) ∙ (λ i. take (first i) a ++ take (second i) b)))

pub pieces_join : PiecesJoin
pieces_join o later refused again a b w h =
    elim (starts w o.seat) [
      | inl none ↦ ap (did later again (world.Piece b)) (piece_none w o o.seat refused a refl none) ∙ piece_none w later o.seat again b h none ∙ sym (piece_none w o o.seat refused (a ++ b) refl none)
      | inr (s, e, c) ↦ subst (λ (v : World). did later again (world.Piece b) (did o refused (world.Piece a) v) ≡ did o refused (world.Piece (a ++ b)) v) (sym e)
          (ap (did later again (world.Piece b)) (piece_set w o o.seat refused a s refl c) ∙ piece_set w later o.seat again b (takes a s) h c
          ∙ ap (λ ts. with_scene w o.seat (with_text s ts)) (two_takes a b s.talk.held.text (room_of s.talk a) (room_of (takes a s).talk b) (room_of s.talk (a ++ b)) refl refl refl)
          ∙ sym (piece_set w o o.seat refused (a ++ b) s refl c))
    ]

-- ---- sessions that are the same, but for what a closed one holds

abbrev AreAlike : Scene → Scene → Type 0
AreAlike x y = (x ≡ y) ⊎ ((is_closed x.talk.stage ≡ true) × (is_closed y.talk.stage ≡ true) × (without_octets x ≡ without_octets y))

alike_back : (x y : Scene) → AreAlike x y → AreAlike y x
alike_back x y (inl e) = inl (sym e)
alike_back x y (inr (c, d, e)) = inr (d, c, sym e)

-- to the same
alike_both : (x y z : Scene) → AreAlike x z → AreAlike y z → AreAlike x y
alike_both x y z (inl e) k = subst (λ q. AreAlike q y) (sym e) (alike_back y z k)
alike_both x y z (inr h) (inl e) = subst (AreAlike x) (sym e) (inr h)
alike_both x y z (inr (c, d, e)) (inr (f, g, i)) = inr (c, f, e ∙ sym i)

alike_still : (users : List User) (o : Occasion) (x y : Scene) → AreAlike x y → IsStill users o x → IsStill users o y
alike_still users o x y (inl e) s = subst (IsStill users o) e s
alike_still users o x y (inr (c, d, e)) s = closed_still users o y d

alike_set : (w : World) (k : ℕ) (x y : Scene) → AreAlike x y → Alike k (with_scene w k x) (with_scene w k y)
alike_set w k x y (inl e) = inl (ap (with_scene w k) e)
alike_set w k x y (inr (c, d, e)) = inr (open_is w k x true c, open_is w k y true d, set_empty x ∙ ap (with_scene w k) e ∙ sym (set_empty y))
  where
    set_empty : (s : Scene) → with_emptied (with_scene w k s) k (place_at (with_scene w k s).places k) ≡ with_scene w k (without_octets s)
    set_empty s = ap (with_emptied (with_scene w k s) k) (there w k s) ∙ set_twice w k s (without_octets s)

-- ---- a turn and octets

came_set : (w : World) (o : Occasion) (refused : Bool) (s : Scene) → is_closed s.talk.stage ≡ false → came_of o refused (with_scene w o.seat s) ≡ Some (turn_of w.users o refused s).0
came_set w o refused s e = ap (option_map (λ place. (turn_of w.users o refused (scene_of (with_scene w o.seat s) place)).0)) (open_is w o.seat s false e)

-- what a turn leaves, by whether it closes the session
behind_turn : (w : World) (later : Occasion) (k : ℕ) (again : Bool) (b : List ℕ) (z : Scene) (c : Bool) → later.seat ≡ k → is_closed z.talk.stage ≡ c → HasRoomFor b (open_at (with_scene w k z) k)
    → Alike k (with_scene w k (hears b z)) (did later again (world.Piece b) (with_scene w k z))
behind_turn w later k again b z true h e r = subst (Alike k (with_scene w k (hears b z))) (sym (piece_none (with_scene w k z) later k again b h (open_is w k z true e))) (alike_set w k (hears b z) z (inr (e, e, refl)))
behind_turn w later k again b z false h e r = inl (sym (piece_heard w later k again b z h e r))

kept_set : (o later : Occasion) (refused again : Bool) (b : List ℕ) (w : World) (s : Scene) → later.seat ≡ o.seat → is_closed s.talk.stage ≡ false → IsKept o later refused again b (with_scene w o.seat s)
kept_set o later refused again b w s h e r q g =
    let z = (turn_of w.users o refused s).1 in
    let goes : Some (went_on (turn_of w.users o refused s).0) ≡ Some true = sym (ap (option_map went_on) (came_set w o refused s e)) ∙ g in
    let keeps = turn_keeps w.users o refused s b cc in
    let more = piece_heard w later o.seat again b s h e r in
    let after = turn_set w o refused s e in
    let first = ap (did o refused world.Turn) more ∙ turn_set w o refused (hears b s) e ∙ ap (λ (x : Turn × Scene). with_scene w o.seat x.1) keeps in
    let left = behind_turn w later o.seat again b z (is_closed z.talk.stage) h refl (subst (λ (v : World). HasRoomFor b (open_at v o.seat)) after q) in (
      ap (came_of o refused) more ∙ came_set w o refused (hears b s) e ∙ ap (λ (x : Turn × Scene). Some x.0) keeps ∙ sym (came_set w o refused s e),
      subst (λ (v : World). Alike o.seat v (did later again (world.Piece b) (did o refused world.Turn (with_scene w o.seat s)))) (sym first)
          (subst (λ (v : World). Alike o.seat (with_scene w o.seat (hears b z)) (did later again (world.Piece b) v)) (sym after) left),
    )

pub turns_keep : TurnsKeep
turns_keep o later refused again b w h r q g =
    elim (starts w o.seat) [
      | inl none ↦ absurd (let k : None ≡ Some true = sym (ap (λ x. option_map went_on (option_map (λ place. (turn_of w.users o refused (scene_of w place)).0) x)) none) ∙ g in cc)
      | inr (s, e, c) ↦ subst (IsKept o later refused again b) (sym e) (kept_set o later refused again b w s h c) r q g
    ]

-- ---- all moves

none_run : (o : Occasion) (moves : List Move) (w : World) → open_at w o.seat ≡ None → world_after (steps_on o moves) w ≡ w
none_run o [] w e = refl
none_run o (Turns ∷ moves) w e = ap (world_after (steps_on o moves)) (turn_none w o false e) ∙ none_run o moves w e
none_run o (Comes x ∷ moves) w e = ap (world_after (steps_on o moves)) (piece_none w o o.seat false x refl e) ∙ none_run o moves w e

-- they end at a session that is the same as without a limit
abbrev Ends : Occasion → List Move → World → Scene → World → Type 0
Ends o moves w s new = (end : Scene) × (new ≡ with_scene w o.seat end) × AreAlike end (freely w.users o moves s)

ends : (o : Occasion) (moves : List Move) (w : World) (s : Scene) (b : Bool) → is_closed s.talk.stage ≡ b → HaveRoom o moves (with_scene w o.seat s) → Ends o moves w s (world_after (steps_on o moves) (with_scene w o.seat s))
ends o moves w s true e r = (s, none_run o moves (with_scene w o.seat s) (open_is w o.seat s true e), subst (AreAlike s) (sym (closed_hears w.users o moves s e)) (inr (e, e, refl)))
ends o [] w s false e r = (s, refl, inl refl)
ends o (Turns ∷ moves) w s false e r =
    let q = turn_set w o false s e in
    let z = (turn_of w.users o false s).1 in
    let k = ends o moves w z (is_closed z.talk.stage) refl (subst (HaveRoom o moves) q r) in
    (k.0, ap (world_after (steps_on o moves)) q ∙ k.1, k.2)
ends o (Comes x ∷ moves) w s false e r =
    let q = piece_heard w o o.seat false x s refl e r.0 in
    let k = ends o moves w (hears x s) false e (subst (HaveRoom o moves) q r.1) in
    (k.0, ap (world_after (steps_on o moves)) q ∙ k.1, k.2)

-- and nothing is next there
heard_at : (o : Occasion) (moves : List Move) (w new : World) (s : Scene) → IsHeard o moves (with_scene w o.seat s) new → Ends o moves w s new × IsStill w.users o (freely w.users o moves s)
heard_at o moves w new s h =
    let k = ends o moves w s (is_closed s.talk.stage) refl h.room in
    let quiet = subst (IsQuietFor o (with_scene w o.seat k.0)) (there w o.seat k.0) (subst (IsQuiet o) (h.is ∙ k.1) h.quiet) in
    ((k.0, h.is ∙ k.1, k.2), alike_still w.users o k.0 (freely w.users o moves s) k.2 quiet)

-- worlds with sessions that are the same as one
alike_worlds : (w u v : World) (k : ℕ) (x y z : Scene) → u ≡ with_scene w k x → v ≡ with_scene w k y → AreAlike x z → AreAlike y z → Alike k u v
alike_worlds w u v k x y z e f g h = subst (Alike k u) (sym f) (subst (λ (q : World). Alike k q (with_scene w k y)) (sym e) (alike_set w k x y (alike_both x y z g h)))

pub cutting : CuttingLaw
cutting o a b old u v e f g =
    elim (starts old o.seat) [
      | inl none ↦ inl (f.is ∙ none_run o a old none ∙ sym (g.is ∙ none_run o b old none))
      | inr (s, q, c) ↦ (
          let x = heard_at o a old u s (subst (λ (w : World). IsHeard o a w u) q f) in
          let y = heard_at o b old v s (subst (λ (w : World). IsHeard o b w v) q g) in
          alike_worlds old u v o.seat x.0.0 y.0.0 (freely old.users o b s) x.0.1 y.0.1 (subst (AreAlike x.0.0) (ends_meet old.users o a b s e x.1 y.1) x.0.2) y.0.2)
    ]

-- ---- all octets as one piece

turns_room : (o : Occasion) (n : ℕ) (w : World) → HaveRoom o (replicate n Turns) w
turns_room o zero w = tt
turns_room o (suc n) w = turns_room o n (did o false world.Turn w)

one_set : (o : Occasion) (moves : List Move) (w new : World) (s : Scene) → IsHeard o moves (with_scene w o.seat s) new → IsJoined o moves new (with_scene w o.seat s)
one_set o moves w new s h r =
    let x = heard_at o moves w new s h in
    let c = comes_first w.users o moves s in
    let room : HaveRoom o (as_one (octets_of_moves moves) c.0) (with_scene w o.seat s) = (r, turns_room o c.0 (did o false (world.Piece (octets_of_moves moves)) (with_scene w o.seat s))) in
    let k = ends o (as_one (octets_of_moves moves) c.0) w s (is_closed s.talk.stage) refl room in
    let same = subst (AreAlike k.0) c.1 k.2 in
    let still = alike_still w.users o (freely w.users o moves s) k.0 (alike_back k.0 (freely w.users o moves s) same) x.1 in
    let quiet = subst (IsQuietFor o (with_scene w o.seat k.0)) (sym (there w o.seat k.0)) still in
    (c.0, with_scene w o.seat k.0, record { room = room; is = sym k.1; quiet = quiet }, alike_worlds w new (with_scene w o.seat k.0) o.seat x.0.0 k.0 (freely w.users o moves s) x.0.1 refl x.0.2 same)

pub joining : JoiningLaw
joining o moves old new h r =
    elim (starts old o.seat) [
      | inl none ↦ (
          let same = h.is ∙ none_run o moves old none in
          (0, old, record { room = (r, tt); is = sym (none_run o (as_one (octets_of_moves moves) 0) old none); quiet = subst (IsQuiet o) same h.quiet }, inl same))
      | inr (s, q, c) ↦ subst (IsJoined o moves new) (sym q) (one_set o moves old new s (subst (λ (w : World). IsHeard o moves w new) q h)) r
    ]
