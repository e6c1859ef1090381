-- What was written so far, between a reader and a writer.
use Rattle.std.proofs.Common.{◌≡◌, inl, inr, ℕ, pos, ◌<◌, ◌≤◌, min, Bool, true, false, ◌||◌, is_ok, List, [], ◌∷◌, ◌++◌, length, take, drop, Option, Some, None, refl, sym, ap, subst, ◌∙◌, append_assoc, arith, length-drop, length-take}
use Rattle.std.specs.Prelude.{◌==◌, ◌-◌, codes}
use Rattle.std.specs.Io.KnownBytes.{Appends, Consumes, IsAtEnd, Keeps}
use Rattle.std.proofs.lemmas.Bool.{eqb-true}
use Rattle.std.proofs.lemmas.List.{append-nil, take-append-drop}
use Rattle.acap_lexer.specs.Holding.{Held, held_limit}
use Rattle.acap_login.specs.Login.{User}
use Rattle.acap_machine.specs.Machine.{Machine, new_machine}
use Rattle.acap_session.specs.Piping.{Fed, after_piece, fed_all, turns, hears, octets_of_pieces, always, begins, after_enter, IsQuiet, AreAnswered, IsWritten, HasRead, HasEnded, IsSettled, IsFed, IsOut, HasTurned, HasRoom, MayTake, Goes, SoFar, IsSoFar, without_administrators}
use Rattle.acap_machine.specs.Runs.{outcome_of, machine_after}
use Rattle.acap_dialogue.specs.Hearing.{opening}
use Rattle.acap_dialogue.specs.Saying.{with_said}
use Rattle.acap_dialogue.specs.Session.{session_next, is_closed, after_answer, has_seat}
use Rattle.acap_dialogue.specs.Talking.{Talking, beginning}
use Rattle.acap_session.specs.Turning.{Scene, scene, turn_of, turn_by, turn_and_scene, event_outcome, turn_in, left_after, IsTurn}
use Rattle.acap_dialogue.specs.declared.next.Next.{Next}
use Rattle.acap_session.specs.declared.occasion.Occasion.{Occasion}
use Rattle.acap_dialogue.specs.declared.next.Next.TheVariants as next
use Rattle.acap_session.specs.declared.occasion.Turn.{Turn}
use Rattle.acap_session.specs.declared.occasion.Turn.TheVariants as turn
use Rattle.acap_session.proofs.Sending.{appends_none, appends_then}
use Rattle.acap_session.proofs.Turning.{still, goes_on, held_kept, over, closed_is_quiet, room_left}

-- ---- turns, one after another

turns_snoc : (users : List User) (a : List Bool) (refused : Bool) (s : Scene) → turns users (a ++ refused ∷ []) s ≡ (turn_of users always refused (turns users a s)).1
turns_snoc users [] refused s = refl
turns_snoc users (x ∷ a) refused s = turns_snoc users a refused (turn_of users always x s).1

-- some turns were made
pub record SomeTurns (users : List User) (old new : Scene) : Type 0 where
  pub refused : List Bool
  pub is : new ≡ turns users refused old

pub no_turns : (users : List User) (s : Scene) → SomeTurns users s s
no_turns users s = record { refused = []; is = refl }

pub turn_more : (users : List User) (old mid new : Scene) (came : Turn) → SomeTurns users old mid → IsTurn users always mid came new → SomeTurns users old new
turn_more users old mid new came a k = record {
  refused = a.refused ++ k.refused ∷ [];
  is = ap (λ p. p.1) k.is ∙ ap (λ s. (turn_of users always k.refused s).1) a.is ∙ sym (turns_snoc users a.refused k.refused old);
}

-- nothing is next
pub settled_more : (users : List User) (old mid new : Scene) → SomeTurns users old mid → Goes mid.talk → IsTurn users always mid turn.More new → IsSettled users old new
settled_more users old mid new a g k =
    let s = still users always mid new k in
    let b = turn_more users old mid new turn.More a k in
    record {
      refused = b.refused;
      is = b.is;
      quiet = subst (IsQuiet users) (sym s.same) s.quiet;
      room = subst (λ (q : Scene). HasRoom q.talk) (sym s.same) (λ o. (g o, room_left users 0 (pos 0) mid.talk (g o) s.quiet));
    }

pub settled_closed : (users : List User) (old mid new : Scene) → SomeTurns users old mid → IsTurn users always mid turn.Closed new → IsSettled users old new
settled_closed users old mid new a k =
    let b = turn_more users old mid new turn.Closed a k in
    let c = over users always mid new k in
    record { refused = b.refused; is = b.is; quiet = closed_is_quiet users 0 (pos 0) new.talk c; room = λ o. absurd (let both : true ≡ false = sym c ∙ o in cc) }

-- ---- pieces, one after another

pub fed_snoc : (users : List User) (a : List Fed) (x : Fed) (s : Scene) → fed_all users (a ++ x ∷ []) s ≡ after_piece users x (fed_all users a s)
fed_snoc users [] x s = refl
fed_snoc users (y ∷ a) x s = fed_snoc users a x (after_piece users y s)

pub answered_snoc : (users : List User) (a : List Fed) (x : Fed) (s : Scene) → AreAnswered users a s → MayTake x.0 (fed_all users a s).talk → IsQuiet users (after_piece users x (fed_all users a s)) → AreAnswered users (a ++ x ∷ []) s
answered_snoc users [] x s h f q = (f, q, tt)
answered_snoc users (y ∷ a) x s h f q = (h.0, h.1, answered_snoc users a x (after_piece users y s) h.2 f q)

pub joined_snoc : (a : List Fed) (x : Fed) → octets_of_pieces (a ++ x ∷ []) ≡ octets_of_pieces a ++ x.0
joined_snoc [] x = append-nil x.0
joined_snoc (y ∷ a) x = ap (λ ys. y.0 ++ ys) (joined_snoc a x) ∙ sym (append_assoc y.0 (octets_of_pieces a) x.0)

-- parts of a piece, up to some place
pub record IsPartly (users : List User) (piece rest : List ℕ) (old new : Scene) : Type 0 where
  pub parts : List Fed
  pub joined_is : piece ≡ octets_of_pieces parts ++ rest
  pub answered : AreAnswered users parts old
  pub is : new ≡ fed_all users parts old
  pub room : HasRoom new.talk

pub partly_none : (users : List User) (piece : List ℕ) (s : Scene) → HasRoom s.talk → IsPartly users piece piece s s
partly_none users piece s r = record { parts = []; joined_is = refl; answered = tt; is = refl; room = r }

-- the session with that many octets more
abbrev pub pushed : List ℕ → ℕ → Scene → Scene
pushed rest n s = hears (take n rest) s

-- as many are taken as there is room for
pub fits_room : (rest : List ℕ) (n : ℕ) (t : Talking) → is_closed t.stage ≡ false → HasRoom t → n ≡ min (length rest) (held_limit - length t.held.text) → MayTake (take n rest) t
fits_room rest n t o r e = let room = r o in (o, omega (arith, e, room.1, length-take n rest))

pub partly_more : (users : List User) (piece rest back : List ℕ) (n : ℕ) (old mid new : Scene) → IsPartly users piece rest old mid → MayTake (take n rest) mid.talk → back ≡ drop n rest → IsSettled users (pushed rest n mid) new → IsPartly users piece back old new
partly_more users piece rest back n old mid new a f b s =
    let x : Fed = (take n rest, s.refused) in
    let whole : new ≡ after_piece users x (fed_all users a.parts old) = s.is ∙ ap (λ q. after_piece users x q) a.is in
    record {
      parts = a.parts ++ x ∷ [];
      joined_is = a.joined_is ∙ ap (λ ys. octets_of_pieces a.parts ++ ys) (sym (take-append-drop n rest) ∙ ap (λ ys. take n rest ++ ys) (sym b)) ∙ sym (append_assoc (octets_of_pieces a.parts) (take n rest) back) ∙ ap (λ ys. ys ++ back) (sym (joined_snoc a.parts x));
      answered = answered_snoc users a.parts x old a.answered (subst (λ (q : Scene). MayTake x.0 q.talk) a.is f) (subst (IsQuiet users) whole s.quiet);
      is = whole ∙ sym (fed_snoc users a.parts x old);
      room = s.room;
    }

pub fed_whole : (users : List User) (piece rest : List ℕ) (old new : Scene) → IsPartly users piece rest old new → (is_closed new.talk.stage ≡ false → rest ≡ []) → IsFed users piece old new
fed_whole users piece rest old new a all = record { parts = a.parts; rest = rest; joined_is = a.joined_is; answered = a.answered; is = a.is; room = a.room; all = all }

pub shrinks : (rest back : List ℕ) (n k : ℕ) → back ≡ drop n rest → n ≡ min (length rest) k → 0 < k → 0 < length rest → length back < length rest
shrinks rest back n k b e room some = omega (arith, ap (λ (ys : List ℕ). length ys) b, length-drop n rest, e, room, some)

pub no_octets : (xs : List ℕ) → length xs ≤ 0 → xs ≡ []
no_octets [] e = refl
no_octets (x ∷ xs) e = absurd (omega (arith, e))

pub some_octets : (xs : List ℕ) → false ≡ (length xs == 0) → 0 < length xs
some_octets [] e = cc
some_octets (x ∷ xs) e = omega arith

pub none_left : (xs : List ℕ) → true ≡ (length xs == 0) → xs ≡ []
none_left xs e = let k : length xs ≡ 0 = eqb-true (length xs) 0 (sym e) in no_octets xs (omega (arith, k))

-- ---- what is said comes behind what was said

abbrev pub prefixed : List ℕ → Scene → Scene
prefixed xs s = record s { out = xs ++ s.out }

abbrev pre : List ℕ → Turn × Scene → Turn × Scene
pre xs k = (k.0, prefixed xs k.1)

added_pre : (xs out : List ℕ) (n : Next) → with_said (xs ++ out) n ≡ xs ++ with_said out n
added_pre xs out next.More = refl
added_pre xs out (next.Say octets) = append_assoc xs out octets
added_pre xs out (next.Ask event) = refl
added_pre xs out (next.Close octets) = append_assoc xs out octets

shown_pre : (xs : List ℕ) (o : Occasion) (seated : Bool) (m : Machine) (out : List ℕ) (x : Next × Talking) → turn_and_scene o seated m (xs ++ out) x ≡ pre xs (turn_and_scene o seated m out x)
shown_pre xs o seated m out x = ap (λ (ys : List ℕ). let k : Turn × Scene = (turn_in x.0, record { machine = left_after x.0 seated o m; talk = x.1; out = ys }) in k) (added_pre xs out x.0)

pub turn_pre_by : (xs : List ℕ) (o : Occasion) (refused : Bool) (s : Scene) (n : Next) (t : Talking) → turn_by o refused (prefixed xs s) (n, t) ≡ pre xs (turn_by o refused s (n, t))
turn_pre_by xs o refused s next.More t = shown_pre xs o (has_seat s.talk) s.machine s.out (next.More, t)
turn_pre_by xs o refused s (next.Say octets) t = shown_pre xs o (has_seat s.talk) s.machine s.out (next.Say octets, t)
turn_pre_by xs o refused s (next.Ask event) t =
    let r = event_outcome refused s.machine o event in
    shown_pre xs o (has_seat t || is_ok r) (machine_after s.machine r) s.out (after_answer t (outcome_of r))
turn_pre_by xs o refused s (next.Close octets) t = shown_pre xs o (has_seat s.talk) s.machine s.out (next.Close octets, t)

pub turn_pre : (users : List User) (xs : List ℕ) (o : Occasion) (refused : Bool) (s : Scene) → turn_of users o refused (prefixed xs s) ≡ pre xs (turn_of users o refused s)
unfolding turn_of
turn_pre users xs o refused s = let x = session_next users o.nonce o.clock s.talk in turn_pre_by xs o refused s x.0 x.1

pub turns_pre : (users : List User) (xs : List ℕ) (refused : List Bool) (s : Scene) → turns users refused (prefixed xs s) ≡ prefixed xs (turns users refused s)
turns_pre users xs [] s = refl
turns_pre users xs (r ∷ refused) s = ap (λ (k : Turn × Scene). turns users refused k.1) (turn_pre users xs always r s) ∙ turns_pre users xs refused (turn_of users always r s).1

pub fed_pre : (users : List User) (xs : List ℕ) (x : Fed) (s : Scene) → after_piece users x (prefixed xs s) ≡ prefixed xs (after_piece users x s)
fed_pre users xs x s = turns_pre users xs x.1 (hears x.0 s)

pub all_pre : (users : List User) (xs : List ℕ) (a : List Fed) (s : Scene) → fed_all users a (prefixed xs s) ≡ prefixed xs (fed_all users a s)
all_pre users xs [] s = refl
all_pre users xs (x ∷ a) s = ap (fed_all users a) (fed_pre users xs x s) ∙ all_pre users xs a (after_piece users x s)

pub answered_pre : (users : List User) (xs : List ℕ) (a : List Fed) (s : Scene) → AreAnswered users a s → AreAnswered users a (prefixed xs s)
answered_pre users xs [] s h = tt
answered_pre users xs (x ∷ a) s h =
    let same = sym (fed_pre users xs x s) in
    (h.0, subst (IsQuiet users) same h.1, subst (AreAnswered users a) same (answered_pre users xs a (after_piece users x s) h.2))

-- a turn, and turns, behind what was said
pub turn_behind : (users : List User) (o : Occasion) (xs : List ℕ) (old new : Scene) (came : Turn) → IsTurn users o old came new → IsTurn users o (prefixed xs old) came (prefixed xs new)
turn_behind users o xs old new came k = record { refused = k.refused; is = ap (pre xs) k.is ∙ sym (turn_pre users xs o k.refused old) }

settled_behind : (users : List User) (xs : List ℕ) (old new : Scene) → IsSettled users old new → IsSettled users (prefixed xs old) (prefixed xs new)
settled_behind users xs old new k = record { refused = k.refused; is = ap (prefixed xs) k.is ∙ sym (turns_pre users xs k.refused old); quiet = k.quiet; room = k.room }

-- ---- what is written, and what waits

pub out_none : (w : Option (List ℕ)) (waits : List ℕ) (Holds : List ℕ → Type 0) → Holds waits → IsOut w w waits Holds
out_none w waits Holds h = record { front = []; sent = appends_none w; is = h }

pub out_then : (a b c : Option (List ℕ)) (mid waits : List ℕ) (P S Q : List ℕ → Type 0) → IsOut a b mid P → IsOut b c waits S → ((front said : List ℕ) → P (front ++ mid) → S said → Q (front ++ said)) → IsOut a c waits Q
out_then a b c mid waits P S Q p s k = record {
  front = p.front ++ s.front;
  sent = appends_then a b c p.front s.front p.sent s.sent;
  is = subst Q (sym (append_assoc p.front s.front waits)) (k p.front (s.front ++ waits) p.is s.is);
}

-- some turns were made, and what they said is written or waits
abbrev pub TurnsOut : List User → Scene → Option (List ℕ) → Option (List ℕ) → Scene → Type 0
TurnsOut users s old new mid = IsOut old new mid.out (λ said. SomeTurns users s (scene mid.machine mid.talk said))

pub turned_out : (users : List User) (s mid new : Scene) (came : Turn) (a b c : Option (List ℕ)) (waits : List ℕ) → TurnsOut users s a b mid → IsTurn users always mid came new → IsOut b c waits (λ said. said ≡ new.out) → TurnsOut users s a c (scene new.machine new.talk waits)
turned_out users s mid new came a b c waits p k e =
    out_then a b c new.out waits (λ said. SomeTurns users s (scene new.machine new.talk said)) (λ said. said ≡ new.out) (λ said. SomeTurns users s (scene new.machine new.talk said))
    (record { front = p.front; sent = p.sent; is = turn_more users s (prefixed p.front mid) (prefixed p.front new) came p.is (turn_behind users always p.front mid new came k) })
    e
    (λ front said q same. subst (λ ys. SomeTurns users s (scene new.machine new.talk (front ++ ys))) (sym same) q)

abbrev pub SettledOut : List User → Scene → Option (List ℕ) → Option (List ℕ) → Scene → Type 0
SettledOut users s old new mid = IsOut old new mid.out (λ said. IsSettled users s (scene mid.machine mid.talk said))

pub settled_out : (users : List User) (s mid new : Scene) (a b : Option (List ℕ)) → TurnsOut users s a b mid → Goes mid.talk → IsTurn users always mid turn.More new → SettledOut users s a b new
settled_out users s mid new a b p g k =
    record { front = p.front; sent = p.sent; is = settled_more users s (prefixed p.front mid) (prefixed p.front new) p.is g (turn_behind users always p.front mid new turn.More k) }

pub closed_out : (users : List User) (s mid new : Scene) (a b : Option (List ℕ)) → TurnsOut users s a b mid → IsTurn users always mid turn.Closed new → SettledOut users s a b new
closed_out users s mid new a b p k =
    record { front = p.front; sent = p.sent; is = settled_closed users s (prefixed p.front mid) (prefixed p.front new) p.is (turn_behind users always p.front mid new turn.Closed k) }

-- parts of a piece were heard, and what was said to them is written or waits
abbrev pub PartsOut : List User → List ℕ → List ℕ → Scene → Option (List ℕ) → Option (List ℕ) → Scene → Type 0
PartsOut users piece rest s old new mid = IsOut old new mid.out (λ said. IsPartly users piece rest s (scene mid.machine mid.talk said))

pub parts_out : (users : List User) (piece rest back : List ℕ) (n : ℕ) (s mid new : Scene) (a b c : Option (List ℕ)) → PartsOut users piece rest s a b mid → MayTake (take n rest) mid.talk → back ≡ drop n rest → SettledOut users (pushed rest n mid) b c new → PartsOut users piece back s a c new
parts_out users piece rest back n s mid new a b c p f e k =
    out_then a b c mid.out new.out (λ said. IsPartly users piece rest s (scene mid.machine mid.talk said)) (λ said. IsSettled users (pushed rest n mid) (scene new.machine new.talk said)) (λ said. IsPartly users piece back s (scene new.machine new.talk said)) p k
    (λ front said q settled. partly_more users piece rest back n s (prefixed front mid) (scene new.machine new.talk (front ++ said)) q f e (settled_behind users front (pushed rest n mid) (scene new.machine new.talk said) settled))

abbrev pub FedOut : List User → List ℕ → Scene → Option (List ℕ) → Option (List ℕ) → Scene → Type 0
FedOut users piece s old new mid = IsOut old new mid.out (λ said. IsFed users piece s (scene mid.machine mid.talk said))

pub fed_out : (users : List User) (piece rest : List ℕ) (s new : Scene) (a b : Option (List ℕ)) → PartsOut users piece rest s a b new → (is_closed new.talk.stage ≡ false → rest ≡ []) → FedOut users piece s a b new
fed_out users piece rest s new a b p all = record { front = p.front; sent = p.sent; is = fed_whole users piece rest s (prefixed p.front new) p.is all }

-- ---- pieces behind pieces

pub all_append : (users : List User) (a b : List Fed) (s : Scene) → fed_all users (a ++ b) s ≡ fed_all users b (fed_all users a s)
all_append users [] b s = refl
all_append users (x ∷ a) b s = all_append users a b (after_piece users x s)

pub answered_append : (users : List User) (a b : List Fed) (s : Scene) → AreAnswered users a s → AreAnswered users b (fed_all users a s) → AreAnswered users (a ++ b) s
answered_append users [] b s h k = k
answered_append users (x ∷ a) b s h k = (h.0, h.1, answered_append users a b (after_piece users x s) h.2 k)

pub joined_append : (a b : List Fed) → octets_of_pieces (a ++ b) ≡ octets_of_pieces a ++ octets_of_pieces b
joined_append [] b = refl
joined_append (x ∷ a) b = ap (λ ys. x.0 ++ ys) (joined_append a b) ∙ sym (append_assoc x.0 (octets_of_pieces a) (octets_of_pieces b))

-- ---- what was written so far

-- a piece is heard
pub record IsHeard (user : List ℕ) (pieces : List Fed) (piece : List ℕ) (m : Machine) (t : Talking) (written : List ℕ) : Type 0 where
  pub after : List Fed
  pub unread : List ℕ
  pub joined_is : octets_of_pieces pieces ++ piece ≡ octets_of_pieces after ++ unread
  pub answered : AreAnswered [] after (after_enter user)
  pub is : fed_all [] after (after_enter user) ≡ scene m t written
  pub all : is_closed t.stage ≡ false → unread ≡ []

heard_more : (user input rest piece : List ℕ) (w0 w : Option (List ℕ)) (m new_m : Machine) (t new_t : Talking) (out : List ℕ) → (h : SoFar user input rest w0 w m t) → IsFed [] piece (scene m t []) (scene new_m new_t out) → IsHeard user h.pieces piece new_m new_t (h.written ++ out)
heard_more user input rest piece w0 w m new_m t new_t out h f =
    let none : prefixed h.written (scene m t []) ≡ scene m t h.written = ap (scene m t) (append-nil h.written) in
    let whole : fed_all [] f.parts (scene m t h.written) ≡ prefixed h.written (scene new_m new_t out) = ap (fed_all [] f.parts) (sym none) ∙ all_pre [] h.written f.parts (scene m t []) ∙ ap (prefixed h.written) (sym f.is) in
    record {
      after = h.pieces ++ f.parts;
      unread = f.rest;
      joined_is = ap (λ ys. octets_of_pieces h.pieces ++ ys) f.joined_is ∙ sym (append_assoc (octets_of_pieces h.pieces) (octets_of_pieces f.parts) f.rest) ∙ ap (λ ys. ys ++ f.rest) (sym (joined_append h.pieces f.parts));
      answered = answered_append [] h.pieces f.parts (after_enter user) h.answered (subst (AreAnswered [] f.parts) (none ∙ sym h.is) (answered_pre [] h.written f.parts (scene m t []) f.answered));
      is = all_append [] h.pieces f.parts (after_enter user) ∙ ap (fed_all [] f.parts) h.is ∙ whole;
      all = f.all;
    }

pub has_read : (user : List ℕ) (r0 r new w0 w sent : Option (List ℕ)) (piece out : List ℕ) (m new_m : Machine) (t new_t : Talking) → Consumes r new piece → IsFed [] piece (scene m t []) (scene new_m new_t out) → is_closed new_t.stage ≡ false → Appends w sent out → IsSoFar user r0 r w0 w m t
    → IsSoFar user r0 new w0 sent new_m new_t
has_read user None r new w0 w sent piece out m new_m t new_t c f o a h = tt
has_read user (Some input) None new w0 w sent piece out m new_m t new_t c f o a h = absurd h
has_read user (Some input) (Some rest) None w0 w sent piece out m new_m t new_t c f o a h = absurd c
has_read user (Some input) (Some rest) (Some left) w0 w sent piece out m new_m t new_t c f o a h =
    let k = heard_more user input rest piece w0 w m new_m t new_t out h f in
    record {
      pieces = k.after;
      written = h.written ++ out;
      input_is = h.input_is ∙ ap (λ ys. octets_of_pieces h.pieces ++ ys) c ∙ sym (append_assoc (octets_of_pieces h.pieces) piece left) ∙ ap (λ ys. ys ++ left) (k.joined_is ∙ ap (λ ys. octets_of_pieces k.after ++ ys) (k.all o) ∙ append-nil (octets_of_pieces k.after));
      answered = k.answered;
      is = k.is;
      appends = appends_then w0 w sent h.written out h.appends a;
    }

-- the session was closed
pub has_closed : (user : List ℕ) (r0 r new w0 w sent : Option (List ℕ)) (piece out : List ℕ) (m new_m : Machine) (t new_t : Talking) → Consumes r new piece → IsFed [] piece (scene m t []) (scene new_m new_t out) → is_closed new_t.stage ≡ true → Appends w sent out → IsSoFar user r0 r w0 w m t → HasEnded user r0 w0 sent
has_closed user None r new w0 w sent piece out m new_m t new_t c f o a h = tt
has_closed user (Some input) None new w0 w sent piece out m new_m t new_t c f o a h = absurd h
has_closed user (Some input) (Some rest) None w0 w sent piece out m new_m t new_t c f o a h = absurd c
has_closed user (Some input) (Some rest) (Some left) w0 w sent piece out m new_m t new_t c f o a h =
    let k = heard_more user input rest piece w0 w m new_m t new_t out h f in
    let made : IsWritten user (octets_of_pieces k.after) (h.written ++ out) = record { pieces = k.after; joined_is = refl; answered = k.answered; is = sym (ap (λ (s : Scene). s.out) k.is) } in (
      h.written ++ out,
      record {
        read = octets_of_pieces k.after;
        unread = k.unread ++ left;
        input_is = h.input_is ∙ ap (λ ys. octets_of_pieces h.pieces ++ ys) c ∙ sym (append_assoc (octets_of_pieces h.pieces) piece left) ∙ ap (λ ys. ys ++ left) k.joined_is ∙ append_assoc (octets_of_pieces k.after) k.unread left;
        made = made;
        whole = inr (ap (λ (s : Scene). is_closed s.talk.stage) k.is ∙ o);
      },
      appends_then w0 w sent h.written out h.appends a,
    )

so_far_written : (user input rest : List ℕ) (w0 w : Option (List ℕ)) (m : Machine) (t : Talking) → (h : SoFar user input rest w0 w m t) → IsWritten user (octets_of_pieces h.pieces) h.written
so_far_written user input rest w0 w m t h = record { pieces = h.pieces; joined_is = refl; answered = h.answered; is = sym (ap (λ (s : Scene). s.out) h.is) }

-- all was read
pub at_end : (user : List ℕ) (r0 r new w0 w : Option (List ℕ)) (m : Machine) (t : Talking) → Consumes r new [] → IsAtEnd new → IsSoFar user r0 r w0 w m t → HasEnded user r0 w0 w
at_end user None r new w0 w m t c a h = tt
at_end user (Some input) None new w0 w m t c a h = absurd h
at_end user (Some input) (Some rest) None w0 w m t c a h = absurd c
at_end user (Some input) (Some rest) (Some left) w0 w m t c a h =
    (h.written, record { read = octets_of_pieces h.pieces; unread = rest; input_is = h.input_is; made = so_far_written user input rest w0 w m t h; whole = inl (c ∙ a) }, h.appends)

-- the reader failed
pub at_fault : (user : List ℕ) (r0 r new w0 w : Option (List ℕ)) (m : Machine) (t : Talking) → Keeps r new → IsSoFar user r0 r w0 w m t → HasRead user r0 new w0 w
at_fault user None r new w0 w m t k h = tt
at_fault user (Some input) None new w0 w m t k h = absurd h
at_fault user (Some input) (Some rest) None w0 w m t k h = absurd k
at_fault user (Some input) (Some rest) (Some left) w0 w m t k h =
    (octets_of_pieces h.pieces, h.written, h.input_is ∙ ap (λ ys. octets_of_pieces h.pieces ++ ys) (sym k), so_far_written user input rest w0 w m t h, h.appends)

pub at_bound : (user : List ℕ) (r0 r w0 w : Option (List ℕ)) (m : Machine) (t : Talking) → IsSoFar user r0 r w0 w m t → HasRead user r0 r w0 w
at_bound user None r w0 w m t h = tt
at_bound user (Some input) None w0 w m t h = absurd h
at_bound user (Some input) (Some rest) w0 w m t h = (octets_of_pieces h.pieces, h.written, h.input_is, so_far_written user input rest w0 w m t h, h.appends)

-- ---- the user has entered

refused_closes : (user : List ℕ) → is_closed (turn_of [] always true (begins user)).1.talk.stage ≡ true
unfolding turn_of session_next opening after_answer
refused_closes user = refl

pub entered_by : (user : List ℕ) (came : Turn) (new : Scene) (refused : Bool) → (came, new) ≡ turn_of [] always refused (begins user) → is_closed new.talk.stage ≡ false → new ≡ after_enter user
unfolding after_enter
entered_by user came new true e o = absurd (let both : true ≡ false = sym (refused_closes user) ∙ ap (λ k. is_closed k.1.talk.stage) (sym e) ∙ o in cc)
entered_by user came new false e o = ap (λ k. k.1) e

pub starts : (user : List ℕ) (r w0 w : Option (List ℕ)) (came : Turn) (m : Machine) (t : Talking) (out : List ℕ) → IsTurn [] always (begins user) came (scene m t out) → is_closed t.stage ≡ false → Appends w0 w out → IsSoFar user r r w0 w m t
starts user None w0 w came m t out k o a = tt
starts user (Some input) w0 w came m t out k o a = record { pieces = []; written = out; input_is = refl; answered = tt; is = sym (entered_by user came (scene m t out) k.refused k.is o); appends = a }

begun_asks : (user : List ℕ) → (session_next [] 0 (pos 0) (begins user).talk).0 ≡ next.More → ⊥
unfolding session_next opening
begun_asks user e = cc

begun_held : (user : List ℕ) → length (session_next [] 0 (pos 0) (begins user).talk).1.held.text ≡ 0
unfolding session_next opening
begun_held user = refl

-- and there is room for what comes
pub starts_with_room : (user : List ℕ) (came : Turn) (new : Scene) → IsTurn [] always (begins user) came new → HasRoom new.talk
starts_with_room user turn.More new k = absurd (begun_asks user (still [] always (begins user) new k).quiet)
starts_with_room user turn.Said new k = λ o. (goes_on [] always (begins user) new k, (let e = ap (λ (h : Held). length h.text) (held_kept [] always (begins user) new k) in omega (arith, e, begun_held user)))
starts_with_room user turn.Closed new k = λ o. absurd (let both : true ≡ false = sym (over [] always (begins user) new k) ∙ o in cc)

-- a session of the same user, host and machine
pub begun_scene : (user host : List ℕ) (m : Machine) (t : Talking) (out : List ℕ) → host ≡ codes "localhost" → m ≡ new_machine without_administrators → t ≡ beginning host (Some user) → out ≡ [] → scene m t out ≡ begins user
begun_scene user host m t out h e f g =
    let talk : t ≡ (begins user).talk = f ∙ ap (λ (xs : List ℕ). beginning xs (Some user)) h in
    λ i. scene (e i) (talk i) (g i)

-- its first turn
pub first_turn : (user : List ℕ) (users : List User) (s new : Scene) → users ≡ [] → s ≡ begins user → HasTurned users s new → HasTurned [] (begins user) new
first_turn user users s new u e k = subst (λ q. HasTurned [] q new) e (subst (λ us. HasTurned us s new) u k)
