-- What was written where a session between a reader and a writer ends by a fault.
use Rattle.std.proofs.Common.{◌≡◌, inl, inr, ℕ, List, [], ◌++◌, take, drop, Option, Some, None, Result, Ok, Err, IfErr, IsErr, IsErrAnd, OnErr, OnOk, refl, sym, ap, subst, ◌∙◌, append_assoc, arith}
use Rattle.std.specs.Io.KnownBytes.{Appends, Consumes}
use Rattle.std.proofs.lemmas.List.{append-nil, take-append-drop}
use Rattle.acap_login.specs.Login.{User}
use Rattle.acap_machine.specs.Machine.{Machine}
use Rattle.acap_session.specs.Piping.{Fed, after_piece, fed_all, octets_of_pieces, always, begins, after_enter, AreAnswered, CutsShort, HasPartlyAnswered, HasSaid, HasTurned, IsCutShort, IsFed, IsLater, IsOut, IsSoFar, MayTake, PipeReads, Pipes, Says, SaysTo, SoFar, Answers, Settles, Takes, scene_of}
use Rattle.acap_session.specs.Streams.{HasGiven, IfTold, Sends, SendsFront, ReaderTold}
use Rattle.acap_dialogue.specs.Talking.{Talking}
use Rattle.acap_session.specs.Turning.{Scene, scene, IsTurn}
use Rattle.acap_session.specs.declared.pipe_fault.PipeFault.{PipeFault}
use Rattle.acap_session.specs.declared.pipe_fault.PipeFault.TheVariants as faults
use Rattle.acap_session.specs.declared.pipe.PipeState.{PipeState}
use Rattle.acap_session.specs.declared.occasion.Turn.TheVariants as turn
use Rattle.acap_session.proofs.Piping.{IsPartly, PartsOut, FedOut, SomeTurns, TurnsOut, all_append, all_pre, answered_append, answered_pre, entered_by, fed_pre, joined_append, out_then, prefixed, pushed, turn_behind, turn_more, turns_pre}
use Rattle.acap_session.proofs.Sending.{appends_none, appends_then, front_then}

-- ---- what some turns said

says_after : (users : List User) (old mid : Scene) → SomeTurns users old mid → Says faults.Memory users old mid.out
says_after users old mid a = record { refused = a.refused; lacking = []; is = sym (ap (λ (q : Scene). q.out) a.is) ∙ sym (append-nil mid.out); lacks = refl }

says_behind : (fault : PipeFault) (users : List User) (xs : List ℕ) (old : Scene) (said : List ℕ) → Says fault users old said → Says fault users (prefixed xs old) (xs ++ said)
says_behind fault users xs old said a = record {
  refused = a.refused;
  lacking = a.lacking;
  is = ap (λ (q : Scene). q.out) (turns_pre users xs a.refused old) ∙ ap (λ ys. xs ++ ys) a.is ∙ sym (append_assoc xs said a.lacking);
  lacks = a.lacks;
}

-- ---- what was said to a piece

-- nothing more was heard
all_heard : (users : List User) (parts : List Fed) (old new : Scene) → AreAnswered users parts old → new ≡ fed_all users parts old → HasSaid users (octets_of_pieces parts) old new.out
all_heard users parts old new a e = record {
  pieces = parts;
  last = ([], []);
  joined_is = sym (append-nil (octets_of_pieces parts));
  answered = a;
  fits = λ some. absurd (omega (arith, some));
  is = ap (λ (q : Scene). q.out) e;
}

all_said : (users : List User) (piece heard rest : List ℕ) (old new : Scene) → piece ≡ heard ++ rest → HasSaid users heard old new.out → SaysTo faults.Memory users piece old new.out
all_said users piece heard rest old new e a =
    record { heard = heard; rest = rest; lacking = []; piece_is = e; made = subst (HasSaid users heard old) (sym (append-nil new.out)) a; lacks = refl }

partly_says : (users : List User) (piece rest : List ℕ) (old new : Scene) → IsPartly users piece rest old new → SaysTo faults.Memory users piece old new.out
partly_says users piece rest old new a = all_said users piece (octets_of_pieces a.parts) rest old new a.joined_is (all_heard users a.parts old new a.answered a.is)

fed_says : (users : List User) (piece : List ℕ) (old new : Scene) → IsFed users piece old new → SaysTo faults.Memory users piece old new.out
fed_says users piece old new a = all_said users piece (octets_of_pieces a.parts) a.rest old new a.joined_is (all_heard users a.parts old new a.answered a.is)

-- the writer has less
says_less : (fault : PipeFault) (users : List User) (piece : List ℕ) (old : Scene) (said front rest : List ℕ) → said ≡ front ++ rest → SaysTo fault users piece old said → SaysTo faults.Write users piece old front
says_less fault users piece old said front rest e a = record {
  heard = a.heard;
  rest = a.rest;
  lacking = rest ++ a.lacking;
  piece_is = a.piece_is;
  made = subst (HasSaid users a.heard old) (ap (λ ys. ys ++ a.lacking) e ∙ append_assoc front rest a.lacking) a.made;
  lacks = tt;
}

-- one part more, to which so much was said
partly_says_more : (fault : PipeFault) (users : List User) (piece rest back said : List ℕ) (n : ℕ) (old mid : Scene) → IsPartly users piece rest old mid → MayTake (take n rest) mid.talk → back ≡ drop n rest → Says fault users (pushed rest n mid) said → SaysTo fault users piece old said
partly_says_more fault users piece rest back said n old mid a f b s =
    let x : Fed = (take n rest, s.refused) in
    record {
      heard = octets_of_pieces a.parts ++ take n rest;
      rest = back;
      lacking = s.lacking;
      piece_is = a.joined_is ∙ ap (λ ys. octets_of_pieces a.parts ++ ys) (sym (take-append-drop n rest) ∙ ap (λ ys. take n rest ++ ys) (sym b)) ∙ sym (append_assoc (octets_of_pieces a.parts) (take n rest) back);
      made = record {
        pieces = a.parts;
        last = x;
        joined_is = refl;
        answered = a.answered;
        fits = λ some. subst (λ (q : Scene). MayTake x.0 q.talk) a.is f;
        is = sym s.is ∙ ap (λ (q : Scene). (after_piece users x q).out) a.is;
      };
      lacks = s.lacks;
    }

-- ---- and it is written or waits

pub not_ok : {T E : Type 0} (r : Result T E) (P : Type 0) → IsErr r → OnOk r P
not_ok (Ok x) P p = absurd cc
not_ok (Err e) P p = tt

pub write_later : (fault : PipeFault) → fault ≡ faults.Write → IsLater fault
write_later fault e = subst IsLater (sym e) tt

pub is_later : {T : Type 0} (r : Result T PipeFault) (fault : PipeFault) → IsErrAnd r (λ x. x ≡ fault) → IsLater fault → IfErr r IsLater
is_later (Ok x) fault q l = tt
is_later (Err e) fault q l = subst IsLater (sym q) l

-- a turn was refused memory
pub turn_cut : (users : List User) (s mid : Scene) (a b : Option (List ℕ)) (waits : List ℕ) → TurnsOut users s a b mid → waits ≡ mid.out → IsOut a b waits (Says faults.Memory users s)
turn_cut users s mid a b waits p e =
    record { front = p.front; sent = p.sent; is = subst (λ ys. Says faults.Memory users s (p.front ++ ys)) (sym e) (says_after users s (prefixed p.front mid) p.is) }

-- the writer failed behind a turn
pub ease_cut : (users : List User) (s mid new : Scene) (a b c : Option (List ℕ)) (waits : List ℕ) → TurnsOut users s a b mid → IsTurn users always mid turn.Said new → SendsFront b c new.out → waits ≡ [] → IsOut a c waits (Says faults.Write users s)
ease_cut users s mid new a b c waits p k w e =
    let t : SomeTurns users s (prefixed p.front new) = turn_more users s (prefixed p.front mid) (prefixed p.front new) turn.Said p.is (turn_behind users always p.front mid new turn.Said k) in
    let less : Says faults.Write users s (p.front ++ w.front) = record {
      refused = t.refused;
      lacking = w.rest;
      is = sym (ap (λ (q : Scene). q.out) t.is) ∙ ap (λ ys. p.front ++ ys) w.is ∙ sym (append_assoc p.front w.front w.rest);
      lacks = tt;
    } in
    record { front = p.front ++ w.front; sent = appends_then a b c p.front w.front p.sent w.sent; is = subst (Says faults.Write users s) (sym (append-nil (p.front ++ w.front)) ∙ ap (λ ys. (p.front ++ w.front) ++ ys) (sym e)) less }

-- octets were refused memory
pub push_cut : (users : List User) (piece rest : List ℕ) (s mid : Scene) (a b : Option (List ℕ)) → PartsOut users piece rest s a b mid → IsOut a b mid.out (SaysTo faults.Memory users piece s)
push_cut users piece rest s mid a b p = record { front = p.front; sent = p.sent; is = partly_says users piece rest s (prefixed p.front mid) p.is }

-- a fault came in the turns behind a part
pub part_cut : (fault : PipeFault) (users : List User) (piece rest back waits : List ℕ) (n : ℕ) (s mid : Scene) (a b c : Option (List ℕ)) → PartsOut users piece rest s a b mid → MayTake (take n rest) mid.talk → back ≡ drop n rest → IsOut b c waits (Says fault users (pushed rest n mid)) → IsOut a c waits (SaysTo fault users piece s)
part_cut fault users piece rest back waits n s mid a b c p f e k =
    out_then a b c mid.out waits (λ said. IsPartly users piece rest s (scene mid.machine mid.talk said)) (Says fault users (pushed rest n mid)) (SaysTo fault users piece s) p k
    (λ front said q w. partly_says_more fault users piece rest back (front ++ said) n s (prefixed front mid) q f e (says_behind fault users front (pushed rest n mid) said w))

-- ---- what waits is written, or a front of it

abbrev pub Begun : PipeFault → List User → List ℕ → Machine → Talking → List ℕ → Option (List ℕ) → Option (List ℕ) → Type 0
Begun fault users piece m t out old new = IsOut old new out (SaysTo fault users piece (scene m t []))

all_answered : (fault : PipeFault) (users : List User) (piece : List ℕ) (m : Machine) (t : Talking) (out : List ℕ) (a b c : Option (List ℕ)) → Begun fault users piece m t out a b → Appends b c out → HasPartlyAnswered fault users piece a c m t
all_answered fault users piece m t out a b c p w = record { front = p.front ++ out; said = p.is; sent = appends_then a b c p.front out p.sent w }

front_answered : (fault : PipeFault) (users : List User) (piece : List ℕ) (m : Machine) (t : Talking) (out : List ℕ) (a b c : Option (List ℕ)) → Begun fault users piece m t out a b → SendsFront b c out → HasPartlyAnswered faults.Write users piece a c m t
front_answered fault users piece m t out a b c p w = record {
  front = p.front ++ w.front;
  said = says_less fault users piece (scene m t []) (p.front ++ out) (p.front ++ w.front) w.rest (ap (λ ys. p.front ++ ys) w.is ∙ sym (append_assoc p.front w.front w.rest)) p.is;
  sent = appends_then a b c p.front w.front p.sent w.sent;
}

pub none_answered : (fault : PipeFault) (users : List User) (piece : List ℕ) (m : Machine) (t : Talking) (out : List ℕ) (a b : Option (List ℕ)) → Begun fault users piece m t out a b → HasPartlyAnswered faults.Write users piece a b m t
none_answered fault users piece m t out a b p = record { front = p.front; said = says_less fault users piece (scene m t []) (p.front ++ out) p.front out refl p.is; sent = p.sent }

fed_answered : (users : List User) (piece : List ℕ) (m : Machine) (t : Talking) (new : Scene) (a b c : Option (List ℕ)) → FedOut users piece (scene m t []) a b new → SendsFront b c new.out → HasPartlyAnswered faults.Write users piece a c m t
fed_answered users piece m t new a b c p w =
    front_answered faults.Memory users piece m t new.out a b c (record { front = p.front; sent = p.sent; is = fed_says users piece (scene m t []) (prefixed p.front new) p.is }) w

-- ---- by the clauses of the calls

pub settles_cut : {W : Type 0} (users : List User) (contents : W → Option (List ℕ)) (w0 w : W) (old new : PipeState) (fault : PipeFault) (result : Result (Unit {0}) PipeFault) → IsErr result → IsErrAnd result (λ x. x ≡ fault) → IsOut (contents w0) (contents w) new.out.items (Says fault users (scene_of old)) → Settles users contents w0 w old new result
settles_cut users contents w0 w old new fault (Ok done) p q k = absurd cc
settles_cut users contents w0 w old new fault (Err x) p q k = subst (λ y. Settles users contents w0 w old new (Err y)) (sym q) k

pub takes_cut : {W : Type 0} (users : List User) (piece : List ℕ) (contents : W → Option (List ℕ)) (w0 w : W) (old new : PipeState) (fault : PipeFault) (result : Result (Unit {0}) PipeFault) → IsErr result → IsErrAnd result (λ x. x ≡ fault) → IsOut (contents w0) (contents w) new.out.items (SaysTo fault users piece (scene_of old)) → Takes users piece contents w0 w old new result
takes_cut users piece contents w0 w old new fault (Ok done) p q k = absurd cc
takes_cut users piece contents w0 w old new fault (Err x) p q k = subst (λ y. Takes users piece contents w0 w old new (Err y)) (sym q) k

-- nothing waited before
begun_by : (fault : PipeFault) (users : List User) (piece : List ℕ) (old : PipeState) (out : List ℕ) (a b : Option (List ℕ)) → old.out.items ≡ [] → IsOut a b out (SaysTo fault users piece (scene_of old)) → Begun fault users piece old.state.machine old.session out a b
begun_by fault users piece old out a b e k = subst (λ ys. IsOut a b out (SaysTo fault users piece (scene old.state.machine old.session ys))) e k

pub fed_answers : {W : Type 0} (users : List User) (piece : List ℕ) (contents : W → Option (List ℕ)) (w0 w1 w2 : W) (old mid new : PipeState) (result : Result (Unit {0}) PipeFault) → old.out.items ≡ [] → Takes users piece contents w0 w1 old mid (Ok tt) → new.state.machine ≡ mid.state.machine → new.session ≡ mid.session
    → OnOk result (Sends contents w1 w2 mid.out.items) → OnErr result (SendsFront (contents w1) (contents w2) mid.out.items) → IfErr result (λ fault. fault ≡ faults.Write) → Answers users piece contents w0 w2 old new result
fed_answers users piece contents w0 w1 w2 old mid new (Ok done) e k m t sent front fault = record {
  said = k.front ++ mid.out.items;
  heard = subst (λ ys. IsFed users piece (scene old.state.machine old.session ys) (scene new.state.machine new.session (k.front ++ mid.out.items))) e (subst (λ q. IsFed users piece (scene_of old) (scene new.state.machine q (k.front ++ mid.out.items))) (sym t) (subst (λ q. IsFed users piece (scene_of old) (scene q mid.session (k.front ++ mid.out.items))) (sym m) k.is));
  sent = appends_then (contents w0) (contents w1) (contents w2) k.front mid.out.items k.sent sent;
}
fed_answers users piece contents w0 w1 w2 old mid new (Err x) e k m t sent front fault =
    subst (λ y. Answers users piece contents w0 w2 old new (Err y)) (sym fault) (fed_answered users piece old.state.machine old.session (scene_of mid) (contents w0) (contents w1) (contents w2) (subst (λ ys. FedOut users piece (scene old.state.machine old.session ys) (contents w0) (contents w1) (scene_of mid)) e k) front)

pub answers_all : {W : Type 0} (fault : PipeFault) (users : List User) (piece : List ℕ) (contents : W → Option (List ℕ)) (w0 w1 w2 : W) (old mid : PipeState) → old.out.items ≡ [] → IsOut (contents w0) (contents w1) mid.out.items (SaysTo fault users piece (scene_of old)) → Sends contents w1 w2 mid.out.items
    → HasPartlyAnswered fault users piece (contents w0) (contents w2) old.state.machine old.session
answers_all fault users piece contents w0 w1 w2 old mid e k sent =
    all_answered fault users piece old.state.machine old.session mid.out.items (contents w0) (contents w1) (contents w2) (begun_by fault users piece old mid.out.items (contents w0) (contents w1) e k) sent

pub answers_front : {W : Type 0} (fault : PipeFault) (users : List User) (piece : List ℕ) (contents : W → Option (List ℕ)) (w0 w1 w2 : W) (old mid new : PipeState) (later : PipeFault) (result : Result (Unit {0}) PipeFault) → IsErr result → IsErrAnd result (λ x. x ≡ later) → later ≡ faults.Write → old.out.items ≡ []
    → IsOut (contents w0) (contents w1) mid.out.items (SaysTo fault users piece (scene_of old)) → SendsFront (contents w1) (contents w2) mid.out.items → Answers users piece contents w0 w2 old new result
answers_front fault users piece contents w0 w1 w2 old mid new later (Ok done) p q l e k front = absurd cc
answers_front fault users piece contents w0 w1 w2 old mid new later (Err x) p q l e k front =
    subst (λ y. Answers users piece contents w0 w2 old new (Err y)) (sym (q ∙ l)) (front_answered fault users piece old.state.machine old.session mid.out.items (contents w0) (contents w1) (contents w2) (begun_by fault users piece old mid.out.items (contents w0) (contents w1) e k) front)

-- ---- from the first octet on

-- what was said so far, and what was said to a piece
part_said : (fault : PipeFault) (user input rest piece left : List ℕ) (w0 w sent : Option (List ℕ)) (m : Machine) (t : Talking) (Sent : List ℕ → Type 0) → (h : SoFar user input rest w0 w m t) → rest ≡ piece ++ left → (k : HasPartlyAnswered fault [] piece w sent m t) → Sent (h.written ++ (k.front ++ k.said.lacking)) → IsCutShort user input left Sent
part_said fault user input rest piece left w0 w sent m t Sent h c k s =
    let a = k.said.made in
    let heard = k.said.heard in
    let none : prefixed h.written (scene m t []) ≡ scene m t h.written = ap (scene m t) (append-nil h.written) in
    let pieces = h.pieces ++ a.pieces in
    let mid = fed_all [] a.pieces (scene m t []) in
    let amid : fed_all [] pieces (after_enter user) ≡ prefixed h.written mid = all_append [] h.pieces a.pieces (after_enter user) ∙ ap (fed_all [] a.pieces) (h.is ∙ sym none) ∙ all_pre [] h.written a.pieces (scene m t []) in
    let whole : after_piece [] a.last (fed_all [] pieces (after_enter user)) ≡ prefixed h.written (after_piece [] a.last mid) = ap (after_piece [] a.last) amid ∙ fed_pre [] h.written a.last mid in
    let split : piece ++ left ≡ heard ++ (k.said.rest ++ left) = ap (λ ys. ys ++ left) k.said.piece_is ∙ append_assoc heard k.said.rest left in
    record {
      heard = octets_of_pieces h.pieces ++ heard;
      unheard = k.said.rest;
      input_is = h.input_is ∙ ap (λ ys. octets_of_pieces h.pieces ++ ys) (c ∙ split) ∙ sym (append_assoc (octets_of_pieces h.pieces) heard (k.said.rest ++ left));
      said = h.written ++ (k.front ++ k.said.lacking);
      made = inr (record {
        pieces = pieces;
        last = a.last;
        joined_is = ap (λ ys. octets_of_pieces h.pieces ++ ys) a.joined_is ∙ sym (append_assoc (octets_of_pieces h.pieces) (octets_of_pieces a.pieces) a.last.0) ∙ ap (λ ys. ys ++ a.last.0) (sym (joined_append h.pieces a.pieces));
        answered = answered_append [] h.pieces a.pieces (after_enter user) h.answered (subst (AreAnswered [] a.pieces) (none ∙ sym h.is) (answered_pre [] h.written a.pieces (scene m t []) a.answered));
        fits = λ some. subst (λ (q : Scene). MayTake a.last.0 q.talk) (sym amid) (a.fits some);
        is = ap (λ ys. h.written ++ ys) a.is ∙ sym (ap (λ (q : Scene). q.out) whole);
      });
      sent = s;
    }

cuts_short : (fault : PipeFault) (user : List ℕ) (r0 r new w0 w sent : Option (List ℕ)) (piece : List ℕ) (m : Machine) (t : Talking) (Sent : List ℕ → Type 0) → Consumes r new piece → (k : HasPartlyAnswered fault [] piece w sent m t) → IsSoFar user r0 r w0 w m t
    → ((input rest : List ℕ) (h : SoFar user input rest w0 w m t) → Sent (h.written ++ (k.front ++ k.said.lacking))) → CutsShort user r0 new Sent
cuts_short fault user None r new w0 w sent piece m t Sent c k h s = tt
cuts_short fault user (Some input) None new w0 w sent piece m t Sent c k h s = absurd h
cuts_short fault user (Some input) (Some rest) None w0 w sent piece m t Sent c k h s = absurd c
cuts_short fault user (Some input) (Some rest) (Some left) w0 w sent piece m t Sent c k h s = part_said fault user input rest piece left w0 w sent m t Sent h c k (s input rest h)

-- a piece was answered in part
cut_answer : (user : List ℕ) (r0 r new w0 w sent : Option (List ℕ)) (piece : List ℕ) (m : Machine) (t : Talking) (fault : PipeFault) → Consumes r new piece → HasPartlyAnswered fault [] piece w sent m t → IsSoFar user r0 r w0 w m t → Pipes user r0 new w0 sent (Err fault)
cut_answer user r0 r new w0 w sent piece m t faults.Read c k h = absurd k.said.lacks
cut_answer user r0 r new w0 w sent piece m t faults.Write c k h =
    cuts_short faults.Write user r0 r new w0 w sent piece m t (SendsFront w0 sent) c k h
    (λ input rest g. front_then w0 w sent g.written (k.front ++ k.said.lacking) g.appends (record { front = k.front; rest = k.said.lacking; is = refl; sent = k.sent }))
cut_answer user r0 r new w0 w sent piece m t faults.Memory c k h =
    cuts_short faults.Memory user r0 r new w0 w sent piece m t (Appends w0 sent) c k h
    (λ input rest g. appends_then w0 w sent g.written (k.front ++ k.said.lacking) g.appends (subst (Appends w sent) (sym (append-nil k.front) ∙ ap (λ ys. k.front ++ ys) (sym k.said.lacks)) k.sent))

pub answer_cut : (user : List ℕ) (r0 r new w0 w sent : Option (List ℕ)) (piece : List ℕ) (m : Machine) (t : Talking) (fault : PipeFault) (result : Result (Unit {0}) PipeFault) → IsErr result → IsErrAnd result (λ x. x ≡ fault) → Consumes r new piece → HasPartlyAnswered fault [] piece w sent m t → IsSoFar user r0 r w0 w m t → Pipes user r0 new w0 sent result
answer_cut user r0 r new w0 w sent piece m t fault (Ok done) p q c k h = absurd cc
answer_cut user r0 r new w0 w sent piece m t fault (Err x) p q c k h =
    subst (λ y. Pipes user r0 new w0 sent (Err y)) (sym q) (cut_answer user r0 r new w0 w sent piece m t fault c k h)

pub later_reads : (a b : Option ReaderTold) (fault : PipeFault) (result : Result (Unit {0}) PipeFault) → IsErr result → IsErrAnd result (λ x. x ≡ fault) → IsLater fault → IfTold HasGiven a b → PipeReads a b result
later_reads a b fault (Ok done) p q l g = absurd cc
later_reads a b faults.Read (Err x) p q l g = absurd l
later_reads a b faults.Write (Err x) p q l g = subst (λ y. PipeReads a b (Err y)) (sym q) g
later_reads a b faults.Memory (Err x) p q l g = subst (λ y. PipeReads a b (Err y)) (sym q) g

-- ---- before the first octet

-- nothing was read, and a front of the greeting was written
greets : (user : List ℕ) (r w0 w : Option (List ℕ)) → SendsFront w0 w (after_enter user).out → CutsShort user r r (SendsFront w0 w)
greets user None w0 w s = tt
greets user (Some input) w0 w s = record {
  heard = [];
  unheard = [];
  input_is = refl;
  said = (after_enter user).out;
  made = inr (record { pieces = []; last = ([], []); joined_is = refl; answered = tt; fits = λ some. absurd (omega (arith, some)); is = refl });
  sent = s;
}

greeted : (user : List ℕ) (r w0 w : Option (List ℕ)) (new : Scene) → HasTurned [] (begins user) new → SendsFront w0 w new.out → CutsShort user r r (SendsFront w0 w)
greeted user r w0 w new k s = greets user r w0 w (subst (SendsFront w0 w) (ap (λ (q : Scene). q.out) (entered_by user k.came new k.made.refused k.made.is k.going)) s)

pub greets_by : (user : List ℕ) (r w0 w : Option (List ℕ)) (new : Scene) (fault : PipeFault) (result : Result (Unit {0}) PipeFault) → IsErr result → IsErrAnd result (λ x. x ≡ fault) → fault ≡ faults.Write → HasTurned [] (begins user) new → SendsFront w0 w new.out → Pipes user r r w0 w result
greets_by user r w0 w new fault (Ok done) p q e k s = absurd cc
greets_by user r w0 w new fault (Err x) p q e k s = subst (λ y. Pipes user r r w0 w (Err y)) (sym (q ∙ e)) (greeted user r w0 w new k s)

-- memory was refused before the greeting
unstarted : (user : List ℕ) (r w : Option (List ℕ)) → CutsShort user r r (Appends w w)
unstarted user None w = tt
unstarted user (Some input) w = record { heard = []; unheard = []; input_is = refl; said = []; made = inl (refl, refl); sent = appends_none w }

pub unbegun : (user : List ℕ) (r w : Option (List ℕ)) (result : Result (Unit {0}) PipeFault) → IsErr result → IsErrAnd result (λ x. x ≡ faults.Memory) → Pipes user r r w w result
unbegun user r w (Ok done) p q = absurd cc
unbegun user r w (Err x) p q = subst (λ y. Pipes user r r w w (Err y)) (sym q) (unstarted user r w)
