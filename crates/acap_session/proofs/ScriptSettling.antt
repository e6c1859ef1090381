-- All turns at a seat, and all that is offered there, where no event is refused memory.
use Rattle.std.proofs.Common.{◌≡◌, inl, inr, ℕ, zero, suc, ◌-◌, ◌<◌, ◌≤◌, min, Bool, true, false, List, [], ◌∷◌, ◌++◌, length, Option, Some, None, IsSome, refl, sym, ap, subst, ◌∙◌, arith, length-drop}
use Rattle.std.specs.Prelude.{replicate}
use Rattle.std.specs.List.{list_any}
use Rattle.acap_dialogue.specs.Session.{is_closed, is_hearing, session_next}
use Rattle.acap_dialogue.specs.Talking.{Talking}
use Rattle.acap_dialogue.specs.declared.next.Next.{Next}
use Rattle.acap_dialogue.specs.declared.next.Next.TheVariants as next
use Rattle.acap_grammar.specs.Replies.{crlf}
use Rattle.acap_lexer.specs.Holding.{held_limit}
use Rattle.acap_script.specs.declared.seat_line.SeatLine.{SeatLine}
use Rattle.acap_script.specs.declared.seat_line.SeatLine.TheVariants as act
use Rattle.acap_session.specs.Laws.{told_first}
use Rattle.acap_session.specs.Places.{SeatSession, place_at, if_open}
use Rattle.acap_session.specs.Script.{Acts, GoesOn, Hears, IsOver, IsQuiet, IsQuietFor, Listens, left_by, turns}
use Rattle.acap_session.specs.ScriptWriting.{done_at, heard, offered, offered_again, refused_acting, refused_by_turns, refused_hearing, settled, refused_first, turns_most}
use Rattle.acap_session.specs.Turning.{Scene, turn_by, turn_of}
use Rattle.acap_session.specs.World as world
use Rattle.acap_session.specs.World.{World, HasTurnedAt, at_open, did, open_at, scene_of, went_on, with_scene}
use Rattle.acap_session.specs.declared.occasion.Occasion.{Occasion}
use Rattle.acap_session.specs.declared.occasion.Turn.{Turn}
use Rattle.acap_session.proofs.Counting.{at_most}
use Rattle.acap_session.proofs.Cutting.{piece_none, still_stays}
use Rattle.acap_session.proofs.Placing.{same_scene}
use Rattle.acap_session.proofs.ScriptHearing.{listens_piece, listens_turns, no_turns, quiet_none, room_at, settles_fewer, turns_at, unheard}
use Rattle.acap_session.proofs.ScriptHearing as hearing

abbrev pub any : List Bool → Bool
any refused = list_any (λ r. r) refused

pub none_both : (a b : List Bool) → any (a ++ b) ≡ false → (any a ≡ false) × (any b ≡ false)
none_both [] b e = (refl, e)
none_both (true ∷ a) b e = absurd cc
none_both (false ∷ a) b e = none_both a b e

-- ---- a turn whose event isn't refused memory

same_by : (o : Occasion) (refused : Bool) (s : Scene) (n : Next) (t : Talking) (more : List Bool) → any (told_first refused n more) ≡ false
    → (turn_by o refused s (n, t) ≡ turn_by o false s (n, t)) × (any more ≡ false)
same_by o true s (next.Ask event) t more e = absurd cc
same_by o false s (next.Ask event) t more e = (refl, e)
same_by o refused s n t more e = (refl, e)

same_at : (o : Occasion) (refused : Bool) (w : World) (now : Option SeatSession) (more : List Bool) → any (refused_first refused w o now more) ≡ false
    → (at_open w o.seat (λ s. (turn_of w.users o refused s).1) now ≡ at_open w o.seat (λ s. (turn_of w.users o false s).1) now) × (any more ≡ false)
unfolding turn_of
same_at o refused w None more e = (refl, e)
same_at o refused w (Some p) more e =
    let x = session_next w.users o.nonce o.clock p.talk in
    let k = same_by o refused (scene_of w p) x.0 x.1 more e in
    (ap (λ (y : Turn × Scene). with_scene w o.seat y.1) k.0, k.1)

-- it is the turn whose event is asked
turn_same : (o : Occasion) (refused : Bool) (w : World) (more : List Bool) → any (refused_first refused w o (open_at w o.seat) more) ≡ false
    → (did o refused world.Turn w ≡ did o false world.Turn w) × (any more ≡ false)
unfolding did
turn_same o refused w more e = same_at o refused w (open_at w o.seat) more e

turns_same : (o : Occasion) (refused : List Bool) (w : World) → any (refused_by_turns o refused w) ≡ false → turns o refused w ≡ turns o (replicate (length refused) false) w
turns_same o [] w e = refl
turns_same o (r ∷ refused) w e =
    let k = turn_same o r w (refused_by_turns o refused (did o r world.Turn w)) e in
    turns_same o refused (did o r world.Turn w) k.1 ∙ ap (turns o (replicate (length refused) false)) k.0

-- ---- where nothing is next a turn changes nothing

still_at : (o : Occasion) (w : World) (p : SeatSession) (b : Bool) → place_at w.places o.seat ≡ Some p → is_closed p.talk.stage ≡ b → IsQuietFor o w (Some p)
    → at_open w o.seat (λ s. (turn_of w.users o false s).1) (if_open (Some p)) ≡ w
still_at o w p true there e q = rw e refl
still_at o w p false there e q =
    let stands : open_at w o.seat ≡ Some p = ap if_open there ∙ rw e refl in
    rw e (ap (with_scene w o.seat) (still_stays w.users o false (scene_of w p) q) ∙ same_scene w o.seat p stands)

still_by : (o : Occasion) (w : World) (x : Option SeatSession) → place_at w.places o.seat ≡ x → IsQuietFor o w x
    → at_open w o.seat (λ s. (turn_of w.users o false s).1) (if_open x) ≡ w
still_by o w None there q = refl
still_by o w (Some p) there q = still_at o w p (is_closed p.talk.stage) there refl q

still : (o : Occasion) (w : World) → IsQuiet o w → did o false world.Turn w ≡ w
unfolding did
still o w q = still_by o w (place_at w.places o.seat) refl q

still_turns : (o : Occasion) (n : ℕ) (w : World) → IsQuiet o w → turns o (replicate n false) w ≡ w
still_turns o zero w q = refl
still_turns o (suc n) w q = ap (turns o (replicate n false)) (still o w q) ∙ still_turns o n w q

-- so there is one end of all turns
one_end : (o : Occasion) (m n : ℕ) (w : World) → IsQuiet o (turns o (replicate m false) w) → IsQuiet o (turns o (replicate n false) w)
    → turns o (replicate m false) w ≡ turns o (replicate n false) w
one_end o zero n w q r = sym (still_turns o n w q)
one_end o (suc m) zero w q r = still_turns o (suc m) w r
one_end o (suc m) (suc n) w q r = one_end o m n (did o false world.Turn w) q r

-- ---- and so many turns come to it

unheard_once : (b : Bool) → unheard b ≤ 1
unheard_once true = omega arith
unheard_once false = omega arith

within_most : (x : Option SeatSession) → turns_at x ≤ turns_most x
within_most None = omega arith
within_most (Some p) =
    let k = at_most p.talk.held in
    let u = unheard_once (is_hearing p.talk.stage) in
    omega (arith, k, u)

none_by : (x : Option SeatSession) → turns_at x ≤ 0 → x ≡ None
none_by None e = refl
none_by (Some p) e = absurd (omega (arith, e))

made : (o : Occasion) (w : World) (p : SeatSession) → open_at w o.seat ≡ Some p → HasTurnedAt o (went_on (turn_of w.users o false (scene_of w p)).0) w (did o false world.Turn w)
made o w p e = record { place = p; there = e; refused = false; is = refl; came = refl }

quiet_by : (o : Occasion) (n : ℕ) (w : World) (goes : Bool) → HasTurnedAt o goes w (did o false world.Turn w) → turns_at (open_at w o.seat) ≤ suc n
    → (turns_at (open_at (did o false world.Turn w) o.seat) ≤ n → IsQuiet o (turns o (replicate n false) (did o false world.Turn w)))
    → IsQuiet o (turns o (replicate n false) (did o false world.Turn w))
quiet_by o n w true h e later = let less = settles_fewer o true w (did o false world.Turn w) refl (inl h) in later (omega (arith, less, e))
quiet_by o n w false h e later =
    let v = did o false world.Turn w in
    let q : IsQuiet o v = (hearing.settled o false w w v (no_turns o w) refl (inl h)).quiet in
    subst (IsQuiet o) (sym (still_turns o n v q)) q

quiet_at : (o : Occasion) (n : ℕ) (w : World) (x : Option SeatSession) → open_at w o.seat ≡ x → turns_at (open_at w o.seat) ≤ suc n
    → (turns_at (open_at (did o false world.Turn w) o.seat) ≤ n → IsQuiet o (turns o (replicate n false) (did o false world.Turn w)))
    → IsQuiet o (turns o (replicate (suc n) false) w)
quiet_at o n w None there e later =
    let q : IsQuiet o w = quiet_none o w (place_at w.places o.seat) there in
    subst (IsQuiet o) (sym (still_turns o (suc n) w q)) q
quiet_at o n w (Some p) there e later = quiet_by o n w (went_on (turn_of w.users o false (scene_of w p)).0) (made o w p there) e later

quiet_after : (o : Occasion) (n : ℕ) (w : World) → turns_at (open_at w o.seat) ≤ n → IsQuiet o (turns o (replicate n false) w)
quiet_after o zero w e = quiet_none o w (place_at w.places o.seat) (none_by (open_at w o.seat) e)
quiet_after o (suc n) w e = quiet_at o n w (open_at w o.seat) refl e (quiet_after o n (did o false world.Turn w))

pub settles : (o : Occasion) (w : World) → IsQuiet o (settled o w)
settles o w = quiet_after o (turns_most (open_at w o.seat)) w (within_most (open_at w o.seat))

all_turns : (o : Occasion) (refused : List Bool) (w : World) → any (refused_by_turns o refused w) ≡ false → IsQuiet o (turns o refused w) → turns o refused w ≡ settled o w
all_turns o refused w e q =
    let same = turns_same o refused w e in
    same ∙ one_end o (length refused) (turns_most (open_at w o.seat)) w (subst (IsQuiet o) same q) (settles o w)

-- ---- what is offered again

closed_still : (o : Occasion) (piece : List ℕ) (w : World) → open_at w o.seat ≡ None → offered o piece w ≡ w
closed_still o piece w e =
    let same : did o false (world.Piece piece) w ≡ w = piece_none w o o.seat false piece refl e in
    ap (settled o) same ∙ ap (λ x. turns o (replicate (turns_most x) false) w) e

no_more : (most : ℕ) (o : Occasion) (rest : List ℕ) (w : World) → open_at w o.seat ≡ None → offered_again most o rest w ≡ w
no_more zero o rest w e = refl
no_more (suc most) o [] w e = refl
no_more (suc most) o (c ∷ rest) w e =
    let left = left_by (open_at w o.seat) (c ∷ rest) in
    ap (offered_again most o left) (closed_still o (c ∷ rest) w e) ∙ no_more most o left w e

none_left : (most : ℕ) (o : Occasion) (w : World) → offered_again most o [] w ≡ w
none_left zero o w = refl
none_left (suc most) o w = refl

at_end : (most : ℕ) (o : Occasion) (rest : List ℕ) (w : World) → IsOver o.seat rest w → offered_again most o rest w ≡ w
at_end most o rest w (inl e) = ap (λ xs. offered_again most o xs w) e ∙ none_left most o w
at_end most o rest w (inr e) = no_more most o rest w e

left_within : (x : Option SeatSession) (piece : List ℕ) → length (left_by x piece) ≤ length piece
left_within None piece = omega arith
left_within (Some p) piece = let k = length-drop (min (length piece) (held_limit - length p.talk.held.text)) piece in omega (arith, k)

left_fewer : (x : Option SeatSession) (piece : List ℕ) → IsSome x → ((p : SeatSession) → x ≡ Some p → length p.talk.held.text < held_limit) → 0 < length piece → length (left_by x piece) < length piece
left_fewer None piece is room some = absurd cc
left_fewer (Some p) piece is room some =
    let less = room p refl in
    let k = length-drop (min (length piece) (held_limit - length p.talk.held.text)) piece in
    omega (arith, k, less, some)

again : (refused : List (List Bool)) (most : ℕ) (o : Occasion) (rest : List ℕ) (w new : World) → Listens o.seat w → IsQuiet o w → GoesOn o.seat rest w → length rest ≤ most
    → any (refused_hearing refused o rest w) ≡ false → Hears refused o rest w new → offered_again most o rest w ≡ new
again [] most o rest w new l q goes few e h = absurd h
again (r ∷ refused) most o [] w new l q goes few e h = absurd (goes.0 refl)
again (r ∷ refused) zero o (c ∷ rest) w new l q goes few e h = absurd (omega (arith, few))
again (r ∷ refused) (suc most) o (c ∷ rest) w new l q goes few e (quiet, inl (over, none, f)) =
    let v = did o false (world.Piece (c ∷ rest)) w in
    let left = left_by (open_at w o.seat) (c ∷ rest) in
    let both = none_both (refused_by_turns o r v) _ e in
    ap (offered_again most o left) (sym (all_turns o r v both.0 quiet)) ∙ at_end most o left (turns o r v) over ∙ sym f
again (r ∷ refused) (suc most) o (c ∷ rest) w new l q goes few e (quiet, inr (on, h)) =
    let piece = c ∷ rest in
    let v = did o false (world.Piece piece) w in
    let left = left_by (open_at w o.seat) piece in
    let both = none_both (refused_by_turns o r v) _ e in
    let less = left_fewer (open_at w o.seat) piece goes.1 (room_at o w l q) (omega arith) in
    ap (offered_again most o left) (sym (all_turns o r v both.0 quiet))
    ∙ again refused most o left (turns o r v) new (listens_turns o r v (listens_piece o piece w l)) quiet on (omega (arith, less, few)) both.1 h

pub heard_is : (refused : List (List Bool)) (o : Occasion) (piece : List ℕ) (w new : World) → Listens o.seat w → any (refused_hearing refused o piece w) ≡ false
    → Hears refused o piece w new → new ≡ heard o piece w
heard_is [] o piece w new l e h = absurd h
heard_is (r ∷ refused) o piece w new l e (quiet, inl (over, none, f)) =
    let v = did o false (world.Piece piece) w in
    let left = left_by (open_at w o.seat) piece in
    let both = none_both (refused_by_turns o r v) _ e in
    f ∙ sym (at_end (length piece) o left (turns o r v) over) ∙ ap (offered_again (length piece) o left) (all_turns o r v both.0 quiet)
heard_is (r ∷ refused) o piece w new l e (quiet, inr (on, h)) =
    let v = did o false (world.Piece piece) w in
    let left = left_by (open_at w o.seat) piece in
    let both = none_both (refused_by_turns o r v) _ e in
    sym (again refused (length piece) o left (turns o r v) new (listens_turns o r v (listens_piece o piece w l)) quiet on (left_within (open_at w o.seat) piece) both.1 h)
    ∙ ap (offered_again (length piece) o left) (all_turns o r v both.0 quiet)

-- what is done at a seat
pub done_is : (does : SeatLine) (o : Occasion) (old new : World) → Listens o.seat old → (k : Acts does o old new) → any (refused_acting does o old new k) ≡ false → new ≡ done_at does o old
done_is (act.Send text) o old new l k e = heard_is k.refused o (text ++ crlf) old new l e k.heard
done_is (act.Raw octets) o old new l k e = heard_is k.refused o octets old new l e k.heard
done_is act.Turn o old new l k e = k.is ∙ (turn_same o k.refused old [] e).0
done_is does o old new l k e = k
