-- Lines of a script, one after another, and what was written so far.
use Rattle.std.proofs.Common.{◌≡◌, inl, inr, ℕ, ◌+◌, ◌<◌, ◌≤◌, Bool, true, false, ◌||◌, List, [], ◌∷◌, ◌++◌, length, take, drop, Option, Some, None, Result, Ok, Err, IsErr, IsErrAnd, refl, sym, ap, subst, ◌∙◌, append_assoc, arith, slice_index, length-drop, length-append}
use Rattle.std.specs.Io.KnownBytes.{Appends, Consumes, IsAtEnd, Keeps}
use Rattle.std.specs.List.{list_any}
use Rattle.std.specs.Option.{is_some}
use Rattle.std.specs.Prelude.{Vec}
use Rattle.std.specs.declared.alloc.Global.{Global}
use Rattle.std.proofs.lemmas.List.{append-nil, take-append-drop, drop_more}
use Rattle.std.proofs.lemmas.Bool.{or_parts}
use Rattle.acap_session.specs.Places.{place_at}
use Rattle.acap_session.specs.Script.{Acts, AreDone, IsDone, MaySay, MaySpeak, Says, begins, is_wrong, may, world_of}
use Rattle.acap_session.specs.ScriptOutput.{Shows}
use Rattle.acap_session.specs.ScriptRun.{is_feed, IsLine, AreLines, lines_of, HasLines, HasBegun, HasEnded, HasStopped, HasFailed, Runs, ScriptReads, HasPartLines, HasRunLine, RunsLine, RunsLast, HasRunLines, HasFailedIn, RunsLines}
use Rattle.acap_session.specs.Streams.{HasGiven, IfTold, SendsFront, ReaderTold}
use Rattle.acap_session.specs.World.{World, open_at, output_taken, said_before}
use Rattle.acap_session.specs.declared.script.Script.{Script}
use Rattle.acap_session.specs.declared.script_fault.ScriptFault.{ScriptFault}
use Rattle.acap_session.specs.declared.script_fault.ScriptFault.TheVariants as faults
use Rattle.acap_script.specs.declared.line_fault.LineFault.{LineFault}
use Rattle.acap_script.specs.declared.line_fault.LineFault.TheVariants as wrongs
use Rattle.acap_script.specs.declared.seat_line.SeatLine.{SeatLine}
use Rattle.acap_session.specs.declared.occasion.Occasion.{Occasion}
use Rattle.acap_session.specs.declared.script.ScriptStage.TheVariants as standing
use Rattle.acap_session.proofs.ScriptOutput.{flat_snoc}
use Rattle.acap_session.proofs.Sending.{appends_none, appends_then, front_then}

-- ---- something is done at a seat

pub says : (line : SeatLine) (o : Occasion) (old after left : World) (said slice out : List ℕ) → (may line (is_some (open_at old o.seat)) ≡ true) × Acts line o old after → said ≡ said_before (place_at after.places o.seat) → left ≡ output_taken after o.seat → slice ≡ said → Shows o.seat slice out
    → (may line (is_some (open_at old o.seat)) ≡ true) × Says line o old out left
says line o old after left said slice out acts f g h shows = (acts.0, record { after = after; acts = acts.1; shown = subst (λ ys. Shows o.seat ys out) (h ∙ f) shows; left = g })

spoken_by : (line : SeatLine) (seat : ℕ) (old : Script) (left : World) (result : Result (Vec ℕ Global) LineFault) → MaySay line (record { seat = seat; clock = old.clock; nonce = old.nonce }) (world_of old.standing) left result → MaySpeak seat line old (record old { standing = standing.Since left }) result
spoken_by line seat old left (Ok out) k = (
  k.0,
  record {
    after = k.1.after;
    acts = k.1.acts;
    shown = k.1.shown;
    left = ap (λ (v : World). let s : Script = record old { standing = standing.Since v } in s) k.1.left;
  },
)
spoken_by line seat old left (Err wrongs.Wrong) k = k
spoken_by line seat old left (Err wrongs.Memory) k = k

pub spoken : (line : SeatLine) (seat : ℕ) (old : Script) (w left : World) (result : Result (Vec ℕ Global) LineFault) → w ≡ world_of old.standing → MaySay line (record { seat = seat; clock = old.clock; nonce = old.nonce }) w left result → MaySpeak seat line old (record old { standing = standing.Since left }) result
spoken line seat old w left result e k = spoken_by line seat old left result (subst (λ (v : World). MaySay line (record { seat = seat; clock = old.clock; nonce = old.nonce }) v left result) e k)

-- ---- lines behind lines

done_snoc : (texts : List (List ℕ)) (text : List ℕ) (s t u : Script) (said out : List ℕ) → AreDone texts s said t → IsDone text t out u → AreDone (texts ++ text ∷ []) s (said ++ out) u
done_snoc [] text s t u said out h k = record {
  first = out;
  later = [];
  between = u;
  out_is = ap (λ ys. ys ++ out) h.0 ∙ sym (append-nil out);
  done = subst (λ (q : Script). IsDone text q out u) h.1 k;
  then_done = (refl, refl);
}
done_snoc (x ∷ texts) text s t u said out h k = record {
  first = h.first;
  later = h.later ++ out;
  between = h.between;
  out_is = ap (λ ys. ys ++ out) h.out_is ∙ append_assoc h.first h.later out;
  done = h.done;
  then_done = done_snoc texts text h.between t u h.later out h.then_done k;
}

done_append : (a b : List (List ℕ)) (s t u : Script) (said out : List ℕ) → AreDone a s said t → AreDone b t out u → AreDone (a ++ b) s (said ++ out) u
done_append [] b s t u said out h k = subst (λ ys. AreDone b s (ys ++ out) u) (sym h.0) (subst (λ (q : Script). AreDone b q out u) h.1 k)
done_append (x ∷ a) b s t u said out h k = record {
  first = h.first;
  later = h.later ++ out;
  between = h.between;
  out_is = ap (λ ys. ys ++ out) h.out_is ∙ append_assoc h.first h.later out;
  done = h.done;
  then_done = done_append a b h.between t u h.later out h.then_done k;
}

ended_append : (a b : List (List ℕ)) → lines_of (a ++ b) ≡ lines_of a ++ lines_of b
ended_append [] b = refl
ended_append (x ∷ a) b = ap (λ ys. (x ++ 10 ∷ []) ++ ys) (ended_append a b) ∙ sym (append_assoc (x ++ 10 ∷ []) (lines_of a) (lines_of b))

lines_append : (a b : List (List ℕ)) → AreLines a → AreLines b → AreLines (a ++ b)
lines_append [] b h k = k
lines_append (x ∷ a) b h k = (h.0, lines_append a b h.1 k)

either : (a b : Bool) → a ≡ false → (a || b) ≡ b
either a b e = rw e refl

line_append : (a b : List ℕ) → IsLine a → IsLine b → IsLine (a ++ b)
line_append [] b h k = k
line_append (x ∷ a) b h k = let q = or_parts (is_feed x) (list_any is_feed a) h in either (is_feed x) (list_any is_feed (a ++ b)) q.0 ∙ line_append a b q.1 k

-- ---- the lines of a piece

pub record IsRunning (text piece held rest : List ℕ) (number later : ℕ) (s t : Script) (old new : Option (List ℕ)) : Type 0 where
  pub lines : List (List ℕ)
  pub is : text ≡ lines_of lines ++ (held ++ rest)
  pub are_lines : AreLines lines
  pub held_is : IsLine held
  pub counted : later ≡ number + length lines
  pub bound : later + length rest ≤ number + length piece
  pub said : List ℕ
  pub done : AreDone lines s said t
  pub sent : Appends old new said

pub none_run : (held piece : List ℕ) (number : ℕ) (s : Script) (w : Option (List ℕ)) → IsLine held → IsRunning (held ++ piece) piece held piece number number s s w w
none_run held piece number s w h = record { lines = []; is = refl; are_lines = tt; held_is = h; counted = omega arith; bound = omega arith; said = []; done = (refl, refl); sent = appends_none w }

-- a line that ends in what is left
pub record IsEnded (rest front behind : List ℕ) : Type 0 where
  pub is : rest ≡ front ++ 10 ∷ behind
  pub is_line : IsLine front
  pub fewer : length behind + 1 ≤ length rest

pub ends_at : (rest front behind : List ℕ) (place : ℕ) → (place < length rest) × (slice_index rest place ≡ 10) × IsLine (take place rest) → front ≡ take place rest → behind ≡ drop (place + 1) rest → IsEnded rest front behind
ends_at rest front behind place h e f = record {
  is = sym (take-append-drop place rest) ∙ ap (λ ys. take place rest ++ ys) (drop_more rest place 0 h.0 ∙ ap (λ c. c ∷ drop (place + 1) rest) h.1) ∙ ap (λ ys. ys ++ 10 ∷ drop (place + 1) rest) (sym e) ∙ ap (λ ys. front ++ 10 ∷ ys) (sym f);
  is_line = subst (λ ys. IsLine ys) (sym e) h.2;
  fewer = omega (arith, ap (λ (ys : List ℕ). length ys) f, length-drop (place + 1) rest, h.0);
}

-- the text with that line
cut_there : (lines : List (List ℕ)) (text held rest front behind line : List ℕ) → text ≡ lines_of lines ++ (held ++ rest) → rest ≡ front ++ 10 ∷ behind → line ≡ held ++ front → text ≡ lines_of lines ++ (line ++ 10 ∷ behind)
cut_there lines text held rest front behind line e f g =
    e ∙ ap (λ ys. lines_of lines ++ ys) (ap (λ ys. held ++ ys) f ∙ sym (append_assoc held front (10 ∷ behind)) ∙ ap (λ ys. ys ++ 10 ∷ behind) (sym g))

ended_there : (lines : List (List ℕ)) (text held rest front behind line : List ℕ) → text ≡ lines_of lines ++ (held ++ rest) → rest ≡ front ++ 10 ∷ behind → line ≡ held ++ front → text ≡ lines_of (lines ++ line ∷ []) ++ behind
ended_there lines text held rest front behind line e f g =
    cut_there lines text held rest front behind line e f g ∙ ap (λ ys. lines_of lines ++ ys) (sym (append_assoc line (10 ∷ []) behind)) ∙ sym (append_assoc (lines_of lines) (line ++ 10 ∷ []) behind) ∙ ap (λ ys. ys ++ behind) (sym (flat_snoc (λ l. l ++ 10 ∷ []) lines line))

-- memory was refused behind the lines that were done
pub lines_cut : (text piece held rest : List ℕ) (number later : ℕ) (s t : Script) (old mid new : Option (List ℕ)) → IsRunning text piece held rest number later s t old mid → new ≡ mid → HasPartLines text s (Appends old new)
lines_cut text piece held rest number later s t old mid new a e = record {
  lines = a.lines;
  behind = held ++ rest;
  is = a.is;
  are_lines = a.are_lines;
  said = a.said;
  last = t;
  done = a.done;
  sent = subst (λ (w : Option (List ℕ)). Appends old w a.said) (sym e) a.sent;
}

line_run : (text piece held rest front behind line : List ℕ) (number later : ℕ) (s t u : Script) (old mid new : Option (List ℕ)) → IsRunning text piece held rest number later s t old mid → IsEnded rest front behind → line ≡ held ++ front → HasRunLine line t u mid new → IsRunning text piece [] behind number (later + 1) s u old new
line_run text piece held rest front behind line number later s t u old mid new a h e k = record {
  lines = a.lines ++ line ∷ [];
  is = ended_there a.lines text held rest front behind line a.is h.is e;
  are_lines = lines_append a.lines (line ∷ []) a.are_lines (subst (λ ys. IsLine ys) (sym e) (line_append held front a.held_is h.is_line), tt);
  held_is = refl;
  counted = omega (arith, a.counted, length-append a.lines (line ∷ []));
  bound = omega (arith, a.bound, h.fewer);
  said = a.said ++ k.said;
  done = done_snoc a.lines line s t u a.said k.said a.done k.done;
  sent = appends_then old mid new a.said k.said a.sent k.sent;
}

line_failed : (text piece held rest front behind line : List ℕ) (number later n : ℕ) (s t : Script) (old mid new : Option (List ℕ)) → IsRunning text piece held rest number later s t old mid → IsEnded rest front behind → line ≡ held ++ front → (n ≡ later + 1) × (is_wrong line t ≡ true) × (new ≡ mid) → HasFailedIn text number n s old new
line_failed text piece held rest front behind line number later n s t old mid new a h e k = record {
  before = a.lines;
  wrong = line;
  behind = behind;
  is = cut_there a.lines text held rest front behind line a.is h.is e;
  are_lines = a.are_lines;
  is_line = subst (λ ys. IsLine ys) (sym e) (line_append held front a.held_is h.is_line);
  counted = omega (arith, k.0, a.counted);
  said = a.said;
  last = t;
  done = a.done;
  is_wrong = k.1;
  sent = subst (λ (w : Option (List ℕ)). Appends old w a.said) (sym k.2) a.sent;
}

pub line_ran : (text piece held rest front behind line kept : List ℕ) (number later : ℕ) (s t u : Script) (old mid new : Option (List ℕ)) → IsRunning text piece held rest number later s t old mid → IsEnded rest front behind → line ≡ held ++ front → HasRunLine line t u mid new → kept ≡ [] → IsRunning text piece kept behind number (later + 1) s u old new
line_ran text piece held rest front behind line kept number later s t u old mid new a h e k none =
    subst (λ ks. IsRunning text piece ks behind number (later + 1) s u old new) (sym none) (line_run text piece held rest front behind line number later s t u old mid new a h e k)

line_fails : (text piece held rest front behind line kept : List ℕ) (number later more : ℕ) (s t u : Script) (old mid new : Option (List ℕ)) (fault : ScriptFault) → IsRunning text piece held rest number later s t old mid → IsEnded rest front behind → line ≡ held ++ front → RunsLine line (later + 1) t u mid new (Err fault) → RunsLines text kept number more s u old new (Err fault)
line_fails text piece held rest front behind line kept number later more s t u old mid new (faults.Line n) a h e k = line_failed text piece held rest front behind line number later n s t old mid new a h e k
line_fails text piece held rest front behind line kept number later more s t u old mid new faults.Read a h e k = absurd k
line_fails text piece held rest front behind line kept number later more s t u old mid new faults.Write a h e k = record {
  lines = a.lines ++ line ∷ [];
  behind = behind;
  is = ended_there a.lines text held rest front behind line a.is h.is e;
  are_lines = lines_append a.lines (line ∷ []) a.are_lines (subst (λ ys. IsLine ys) (sym e) (line_append held front a.held_is h.is_line), tt);
  said = a.said ++ k.said;
  last = k.last;
  done = done_snoc a.lines line s t k.last a.said k.said a.done k.done;
  sent = front_then old mid new a.said k.said a.sent k.sent;
}
line_fails text piece held rest front behind line kept number later more s t u old mid new faults.Memory a h e k = lines_cut text piece held rest number later s t old mid new a k

pub lines_fail : (text piece held rest front behind line kept : List ℕ) (number later more : ℕ) (s t u : Script) (old mid new : Option (List ℕ)) (fault : ScriptFault) (result : Result (Unit {0}) ScriptFault) → IsErr result → IsErrAnd result (λ x. x ≡ fault) → IsRunning text piece held rest number later s t old mid → IsEnded rest front behind → line ≡ held ++ front → RunsLine line (later + 1) t u mid new (Err fault) → RunsLines text kept number more s u old new result
lines_fail text piece held rest front behind line kept number later more s t u old mid new fault (Ok done) p q a h e k = absurd cc
lines_fail text piece held rest front behind line kept number later more s t u old mid new fault (Err x) p q a h e k =
    subst (λ y. RunsLines text kept number more s u old new (Err y)) (sym q) (line_fails text piece held rest front behind line kept number later more s t u old mid new fault a h e k)

pub all_run : (text piece held rest kept : List ℕ) (number later : ℕ) (s t : Script) (old new : Option (List ℕ)) → IsRunning text piece held rest number later s t old new → IsLine rest → kept ≡ held ++ rest → HasRunLines text kept number later s t old new
all_run text piece held rest kept number later s t old new a h e = record {
  lines = a.lines;
  in_lines = record { is = a.is ∙ ap (λ ys. lines_of a.lines ++ ys) (sym e); are_lines = a.are_lines; is_line = subst (λ ys. IsLine ys) (sym e) (line_append held rest a.held_is h) };
  counted = a.counted;
  said = a.said;
  done = a.done;
  sent = a.sent;
}

-- ---- pieces

consumes_then : (a b c : Option (List ℕ)) (x y : List ℕ) → Consumes a b x → Consumes b c y → Consumes a c (x ++ y)
consumes_then None b c x y p q = tt
consumes_then (Some u) None c x y p q = absurd p
consumes_then (Some u) (Some v) None x y p q = absurd q
consumes_then (Some u) (Some v) (Some w) x y p q = p ∙ ap (λ ys. x ++ ys) q ∙ sym (append_assoc x y w)

consumes_none : (r : Option (List ℕ)) → Consumes r r []
consumes_none None = tt
consumes_none (Some xs) = refl

consumes_keeps : (a b c : Option (List ℕ)) (x : List ℕ) → Consumes a b x → Keeps b c → Consumes a c x
consumes_keeps None b c x p q = tt
consumes_keeps (Some u) None c x p q = absurd p
consumes_keeps (Some u) (Some v) None x p q = absurd q
consumes_keeps (Some u) (Some v) (Some w) x p q = p ∙ ap (λ ys. x ++ ys) (sym q)

pub record IsReading (unread left old new : Option (List ℕ)) (held : List ℕ) (number : ℕ) (s : Script) : Type 0 where
  pub read : List ℕ
  pub consumed : Consumes unread left read
  pub lines : List (List ℕ)
  pub in_lines : HasLines read lines held
  pub counted : number ≡ length lines
  pub said : List ℕ
  pub done : AreDone lines begins said s
  pub sent : Appends old new said

pub none_read : (r w : Option (List ℕ)) (held : List ℕ) (number : ℕ) (s : Script) → held ≡ [] → number ≡ 0 → s ≡ begins → IsReading r r w w held number s
none_read r w held number s e n f = record {
  read = [];
  consumed = consumes_none r;
  lines = [];
  in_lines = record { is = sym e; are_lines = tt; is_line = subst (λ ys. IsLine ys) (sym e) refl };
  counted = n;
  said = [];
  done = (refl, f);
  sent = appends_none w;
}

pub piece_read : (r0 r r1 w0 w w1 : Option (List ℕ)) (held piece kept : List ℕ) (number later : ℕ) (s t : Script) → IsReading r0 r w0 w held number s → Consumes r r1 piece → HasRunLines (held ++ piece) kept number later s t w w1 → IsReading r0 r1 w0 w1 kept later t
piece_read r0 r r1 w0 w w1 held piece kept number later s t a c h = record {
  read = a.read ++ piece;
  consumed = consumes_then r0 r r1 a.read piece a.consumed c;
  lines = a.lines ++ h.lines;
  in_lines = record {
    is = ap (λ ys. ys ++ piece) a.in_lines.is ∙ append_assoc (lines_of a.lines) held piece ∙ ap (λ ys. lines_of a.lines ++ ys) h.in_lines.is ∙ sym (append_assoc (lines_of a.lines) (lines_of h.lines) kept) ∙ ap (λ ys. ys ++ kept) (sym (ended_append a.lines h.lines));
    are_lines = lines_append a.lines h.lines a.in_lines.are_lines h.in_lines.are_lines;
    is_line = h.in_lines.is_line;
  };
  counted = omega (arith, a.counted, h.counted, length-append a.lines h.lines);
  said = a.said ++ h.said;
  done = done_append a.lines h.lines begins s t a.said h.said a.done h.done;
  sent = appends_then w0 w w1 a.said h.said a.sent h.sent;
}

piece_failed : (r0 r r1 w0 w w1 : Option (List ℕ)) (held piece : List ℕ) (number n : ℕ) (s : Script) → IsReading r0 r w0 w held number s → Consumes r r1 piece → HasFailedIn (held ++ piece) number n s w w1 → HasFailed n r0 r1 w0 w1
piece_failed r0 r r1 w0 w w1 held piece number n s a c h = record {
  read = a.read ++ piece;
  consumed = consumes_then r0 r r1 a.read piece a.consumed c;
  before = a.lines ++ h.before;
  wrong = h.wrong;
  behind = 10 ∷ h.behind;
  is = ap (λ ys. ys ++ piece) a.in_lines.is ∙ append_assoc (lines_of a.lines) held piece ∙ ap (λ ys. lines_of a.lines ++ ys) h.is ∙ sym (append_assoc (lines_of a.lines) (lines_of h.before) (h.wrong ++ 10 ∷ h.behind)) ∙ ap (λ ys. ys ++ (h.wrong ++ 10 ∷ h.behind)) (sym (ended_append a.lines h.before));
  are_lines = lines_append a.lines h.before a.in_lines.are_lines h.are_lines;
  is_line = h.is_line;
  ends = refl;
  counted = omega (arith, a.counted, h.counted, length-append a.lines h.before);
  written = a.said ++ h.said;
  last = h.last;
  done = done_append a.lines h.before begins s h.last a.said h.said a.done h.done;
  is_wrong = h.is_wrong;
  sent = appends_then w0 w w1 a.said h.said a.sent h.sent;
}

piece_cut : (r0 r r1 w0 w : Option (List ℕ)) (held piece : List ℕ) (number : ℕ) (s : Script) (Later Sent : List ℕ → Type 0) → (a : IsReading r0 r w0 w held number s) → Consumes r r1 piece → HasPartLines (held ++ piece) s Later → ((said : List ℕ) → Later said → Sent (a.said ++ said)) → HasBegun r0 r1 Sent
piece_cut r0 r r1 w0 w held piece number s Later Sent a c h sends = record {
  read = a.read ++ piece;
  consumed = consumes_then r0 r r1 a.read piece a.consumed c;
  lines = a.lines ++ h.lines;
  behind = h.behind;
  is = ap (λ ys. ys ++ piece) a.in_lines.is ∙ append_assoc (lines_of a.lines) held piece ∙ ap (λ ys. lines_of a.lines ++ ys) h.is ∙ sym (append_assoc (lines_of a.lines) (lines_of h.lines) h.behind) ∙ ap (λ ys. ys ++ h.behind) (sym (ended_append a.lines h.lines));
  are_lines = lines_append a.lines h.lines a.in_lines.are_lines h.are_lines;
  texts = a.lines ++ h.lines;
  texts_are = inl refl;
  written = a.said ++ h.said;
  last = h.last;
  done = done_append a.lines h.lines begins s h.last a.said h.said a.done h.done;
  sent = sends h.said h.sent;
}

run_fails : (r0 r r1 w0 w w1 : Option (List ℕ)) (held piece kept : List ℕ) (number later : ℕ) (s t : Script) (fault : ScriptFault) → IsReading r0 r w0 w held number s → Consumes r r1 piece → RunsLines (held ++ piece) kept number later s t w w1 (Err fault) → Runs r0 r1 w0 w1 (Err fault)
run_fails r0 r r1 w0 w w1 held piece kept number later s t (faults.Line n) a c k = piece_failed r0 r r1 w0 w w1 held piece number n s a c k
run_fails r0 r r1 w0 w w1 held piece kept number later s t faults.Read a c k = absurd k
run_fails r0 r r1 w0 w w1 held piece kept number later s t faults.Write a c k =
    piece_cut r0 r r1 w0 w held piece number s (SendsFront w w1) (SendsFront w0 w1) a c k (λ said sent. front_then w0 w w1 a.said said a.sent sent)
run_fails r0 r r1 w0 w w1 held piece kept number later s t faults.Memory a c k =
    piece_cut r0 r r1 w0 w held piece number s (Appends w w1) (Appends w0 w1) a c k (λ said sent. appends_then w0 w w1 a.said said a.sent sent)

pub pieces_fail : (r0 r r1 w0 w w1 : Option (List ℕ)) (held piece kept : List ℕ) (number later : ℕ) (s t : Script) (fault : ScriptFault) (result : Result (Unit {0}) ScriptFault) → IsErr result → IsErrAnd result (λ x. x ≡ fault) → IsReading r0 r w0 w held number s → Consumes r r1 piece → RunsLines (held ++ piece) kept number later s t w w1 (Err fault) → Runs r0 r1 w0 w1 result
pieces_fail r0 r r1 w0 w w1 held piece kept number later s t fault (Ok done) p q a c k = absurd cc
pieces_fail r0 r r1 w0 w w1 held piece kept number later s t fault (Err x) p q a c k =
    subst (λ y. Runs r0 r1 w0 w1 (Err y)) (sym q) (run_fails r0 r r1 w0 w w1 held piece kept number later s t fault a c k)

pub stopped : (r0 r r1 w0 w : Option (List ℕ)) (held : List ℕ) (number : ℕ) (s : Script) → IsReading r0 r w0 w held number s → Keeps r r1 → HasStopped r0 r1 w0 w
stopped r0 r r1 w0 w held number s a k = record {
  read = a.read;
  consumed = consumes_keeps r0 r r1 a.read a.consumed k;
  lines = a.lines;
  rest = held;
  in_lines = a.in_lines;
  written = a.said;
  last = s;
  done = a.done;
  sent = a.sent;
}

pub at_bound : (r0 r w0 w : Option (List ℕ)) (held : List ℕ) (number : ℕ) (s : Script) → IsReading r0 r w0 w held number s → HasStopped r0 r w0 w
at_bound r0 r w0 w held number s a = record { read = a.read; consumed = a.consumed; lines = a.lines; rest = held; in_lines = a.in_lines; written = a.said; last = s; done = a.done; sent = a.sent }

-- ---- the end

all_read : (r0 r r1 : Option (List ℕ)) (read : List ℕ) → Consumes r0 r read → Consumes r r1 [] → Consumes r0 r1 read
all_read r0 r r1 read p q = subst (λ ys. Consumes r0 r1 ys) (append-nil read) (consumes_then r0 r r1 read [] p q)

pub ended_at : (r0 r r1 w0 w w1 : Option (List ℕ)) (held : List ℕ) (number : ℕ) (s t : Script) (result : Result (Unit {0}) ScriptFault) → IsReading r0 r w0 w held number s → Consumes r r1 [] → IsAtEnd r1 → RunsLast held (number + 1) s t w w1 result → Runs r0 r1 w0 w1 result
ended_at r0 r r1 w0 w w1 [] number s t result a c end k =
    let done : HasEnded r0 r1 w0 w = record { read = a.read; consumed = all_read r0 r r1 a.read a.consumed c; at_end = end; lines = a.lines; rest = []; in_lines = a.in_lines; written = a.said; last = s; done = a.done; sent = a.sent } in
    subst (λ x. Runs r0 r1 w0 w1 x) (sym k.0) (subst (λ (q : Option (List ℕ)). HasEnded r0 r1 w0 q) (sym k.2) done)
ended_at r0 r r1 w0 w w1 (x ∷ held) number s t (Ok done) a c end k = record {
  read = a.read;
  consumed = all_read r0 r r1 a.read a.consumed c;
  at_end = end;
  lines = a.lines;
  rest = x ∷ held;
  in_lines = a.in_lines;
  written = a.said ++ k.said;
  last = t;
  done = done_snoc a.lines (x ∷ held) begins s t a.said k.said a.done k.done;
  sent = appends_then w0 w w1 a.said k.said a.sent k.sent;
}
ended_at r0 r r1 w0 w w1 (x ∷ held) number s t (Err (faults.Line n)) a c end k = record {
  read = a.read;
  consumed = all_read r0 r r1 a.read a.consumed c;
  before = a.lines;
  wrong = x ∷ held;
  behind = [];
  is = a.in_lines.is ∙ ap (λ ys. lines_of a.lines ++ ys) (sym (append-nil (x ∷ held)));
  are_lines = a.in_lines.are_lines;
  is_line = a.in_lines.is_line;
  ends = end;
  counted = omega (arith, k.0, a.counted);
  written = a.said;
  last = s;
  done = a.done;
  is_wrong = k.1;
  sent = subst (λ (q : Option (List ℕ)). Appends w0 q a.said) (sym k.2) a.sent;
}
ended_at r0 r r1 w0 w w1 (x ∷ held) number s t (Err faults.Read) a c end k = absurd k
ended_at r0 r r1 w0 w w1 (x ∷ held) number s t (Err faults.Write) a c end k = record {
  read = a.read;
  consumed = all_read r0 r r1 a.read a.consumed c;
  lines = a.lines;
  behind = x ∷ held;
  is = a.in_lines.is;
  are_lines = a.in_lines.are_lines;
  texts = a.lines ++ (x ∷ held) ∷ [];
  texts_are = inr (end, a.in_lines.is_line, refl);
  written = a.said ++ k.said;
  last = k.last;
  done = done_snoc a.lines (x ∷ held) begins s k.last a.said k.said a.done k.done;
  sent = front_then w0 w w1 a.said k.said a.sent k.sent;
}
ended_at r0 r r1 w0 w w1 (x ∷ held) number s t (Err faults.Memory) a c end k = record {
  read = a.read;
  consumed = all_read r0 r r1 a.read a.consumed c;
  lines = a.lines;
  behind = x ∷ held;
  is = a.in_lines.is;
  are_lines = a.in_lines.are_lines;
  texts = a.lines;
  texts_are = inl refl;
  written = a.said;
  last = s;
  done = a.done;
  sent = subst (λ (q : Option (List ℕ)). Appends w0 q a.said) (sym k) a.sent;
}

-- memory was refused before the first line
unbegun : (r w : Option (List ℕ)) → HasBegun r r (Appends w w)
unbegun r w = record {
  read = [];
  consumed = consumes_none r;
  lines = [];
  behind = [];
  is = refl;
  are_lines = tt;
  texts = [];
  texts_are = inl refl;
  written = [];
  last = begins;
  done = (refl, refl);
  sent = appends_none w;
}

pub unbegun_runs : (r w : Option (List ℕ)) (result : Result (Unit {0}) ScriptFault) → IsErr result → IsErrAnd result (λ x. x ≡ faults.Memory) → Runs r r w w result
unbegun_runs r w (Ok done) p q = absurd cc
unbegun_runs r w (Err x) p q = subst (λ y. Runs r r w w (Err y)) (sym q) (unbegun r w)

-- ---- how reading ends

-- no line fails to read
pub lines_read : (text rest : List ℕ) (number later : ℕ) (s t : Script) (old new : Option (List ℕ)) (fault : ScriptFault) (result : Result (Unit {0}) ScriptFault) (a b : Option ReaderTold) → IsErr result → IsErrAnd result (λ x. x ≡ fault) → RunsLines text rest number later s t old new (Err fault) → IfTold HasGiven a b → ScriptReads a b result
lines_read text rest number later s t old new fault (Ok done) a b p q k g = g
lines_read text rest number later s t old new faults.Read (Err x) a b p q k g = absurd k
lines_read text rest number later s t old new fault (Err x) a b p q k g = subst (λ y. ScriptReads a b (Err y)) (sym q) g

pub last_read : (text : List ℕ) (number : ℕ) (s t : Script) (old new : Option (List ℕ)) (result : Result (Unit {0}) ScriptFault) (a b : Option ReaderTold) → RunsLast text number s t old new result → IfTold HasGiven a b → ScriptReads a b result
last_read [] number s t old new result a b k g = subst (ScriptReads a b) (sym k.0) g
last_read (x ∷ text) number s t old new (Err faults.Read) a b k g = absurd k
last_read (x ∷ text) number s t old new result a b k g = g
