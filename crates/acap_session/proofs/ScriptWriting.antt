-- What lines that were done have written, where no event is refused memory.
use Rattle.std.proofs.Common.{◌≡◌, ℕ, ◌+◌, Bool, true, false, not, if◌then◌else◌, List, [], ◌∷◌, ◌++◌, length, Option, Some, None, refl, sym, ap, subst, ◌∙◌, append_assoc, arith}
use Rattle.std.specs.Prelude.{option_map}
use Rattle.std.specs.Option.{option_and_then, option_map_or}
use Rattle.std.specs.Io.KnownBytes.{Appends, Consumes, IsAtEnd}
use Rattle.std.proofs.lemmas.List.{append-nil}
use Rattle.acap_script.specs.Lines.{line_of}
use Rattle.acap_script.specs.declared.script_line.ScriptLine.{ScriptLine}
use Rattle.acap_script.specs.declared.script_line.ScriptLine.TheVariants as line
use Rattle.acap_session.specs.Places.{place_at}
use Rattle.acap_session.specs.Script.{AreDone, Does, begins, fits, is_wrong, is_wrong_at, world_of}
use Rattle.acap_session.specs.ScriptRun.{AreLines, EndsLine, HasEnded, HasFailed, IsLine, lines_of, with_last}
use Rattle.acap_session.specs.ScriptTaking.{IsReached}
use Rattle.acap_session.specs.ScriptWriting.{NoneRefused, ScriptLaw, script_after_line, cut_lines, line_at, line_writes, lines_write, printed, refused_doing, script_writes, world_after_line, wrong_among, wrong_line}
use Rattle.acap_session.specs.Streams.{SendsFront}
use Rattle.acap_session.specs.World.{World, output_taken, said_before}
use Rattle.acap_session.specs.declared.occasion.Occasion.{Occasion}
use Rattle.acap_session.specs.declared.script.Script.{Script}
use Rattle.acap_session.specs.declared.script.ScriptStage.{ScriptStage}
use Rattle.acap_session.specs.declared.script.ScriptStage.TheVariants as standing
use Rattle.acap_session.proofs.ScriptCutting.{IsCutAfter, ended_cut, fed_cut, last_cut, shown, text_cut}
use Rattle.acap_session.proofs.ScriptSettling.{any, done_is, none_both, settles}
use Rattle.acap_session.proofs.ScriptTaking.{listens, reached_by, reached_on}

-- ---- a line

does_is : (l : ScriptLine) (old : Script) (out : List ℕ) (new : Script) → IsReached old → (k : Does l old out new) → any (refused_doing l old out new k) ≡ false
    → (out ≡ line_writes l old) × (new ≡ script_after_line l old)
does_is (line.At seat does) old out new r k e =
    let o : Occasion = record { seat = seat; clock = old.clock; nonce = old.nonce } in
    let is : k.after ≡ world_after_line seat does old = done_is does o (world_of old.standing) k.after (listens seat old r) k.acts e in (
      shown seat (said_before (place_at k.after.places seat)) out k.shown ∙ ap (λ (w : World). printed seat (said_before (place_at w.places seat))) is,
      k.left ∙ ap (λ (w : World). let s : Script = record old { standing = standing.Since (output_taken w seat) } in s) is,
    )
does_is l old out new r k e = k

-- the line that a text is, if it may stand there
abbrev fitting : ScriptStage → ScriptLine → Option ScriptLine
fitting s l = if fits l s then Some l else None

may_stand : (s : ScriptStage) (l : ScriptLine) → fits l s ≡ true → fitting s l ≡ Some l
may_stand s l e = rw e refl

stands : (text : List ℕ) (old : Script) (l : ScriptLine) → line_of text ≡ Some l → fits l old.standing ≡ true → line_at old.standing text ≡ Some l
stands text old l e f = ap (option_and_then (fitting old.standing)) e ∙ may_stand old.standing l f

unfit : (s : ScriptStage) (l : ScriptLine) (b : Bool) → fits l s ≡ b → not b ≡ true → fitting s l ≡ None
unfit s l true e f = absurd cc
unfit s l false e f = rw e refl

none_by : (s : ScriptStage) (x : Option ScriptLine) → is_wrong_at s x ≡ true → option_and_then (fitting s) x ≡ None
none_by s None e = refl
none_by s (Some l) e = unfit s l (fits l s) refl e

-- ---- lines

abbrev written_by : List (List ℕ) → Script → Option ScriptLine → List ℕ
written_by texts s x = option_map_or (λ l. line_writes l s ++ lines_write texts (script_after_line l s)) x []

abbrev wrong_by : List (List ℕ) → Script → Option ScriptLine → Option ℕ
wrong_by texts s x = option_map_or (λ l. option_map (λ n. n + 1) (wrong_among texts (script_after_line l s))) x (Some 1)

-- one line, and those after it
one_more : (text : List ℕ) (texts : List (List ℕ)) (l : ScriptLine) (old between : Script) (first later : List ℕ) (wrong : Option ℕ) → line_at old.standing text ≡ Some l
    → (first ≡ line_writes l old) × (between ≡ script_after_line l old) → (later ≡ lines_write texts between) × (wrong_among texts between ≡ wrong)
    → (first ++ later ≡ lines_write (text ∷ texts) old) × (wrong_among (text ∷ texts) old ≡ option_map (λ n. n + 1) wrong)
one_more text texts l old between first later wrong at one more = (
  ap (λ xs. xs ++ later) one.0 ∙ ap (λ xs. line_writes l old ++ xs) (more.0 ∙ ap (lines_write texts) one.1) ∙ sym (ap (written_by texts old) at),
  ap (wrong_by texts old) at ∙ ap (option_map (λ n. n + 1)) (ap (wrong_among texts) (sym one.1) ∙ more.1),
)

all_written : (texts : List (List ℕ)) (old : Script) (out : List ℕ) (new : Script) → IsReached old → (k : AreDone texts old out new) → NoneRefused texts old out new k
    → (out ≡ lines_write texts old) × (wrong_among texts old ≡ None)
all_written [] old out new r k e = (k.0, refl)
all_written (text ∷ texts) old out new r k e =
    let both = none_both (refused_doing k.done.line old k.first k.between k.done.does) _ e in
    let one = does_is k.done.line old k.first k.between r k.done.does both.0 in
    let more = all_written texts k.between k.later new (reached_on text k.first old k.between r k.done) k.then_done both.1 in
    let at = stands text old k.done.line k.done.is k.done.may_stand in
    let x = one_more text texts k.done.line old k.between k.first k.later None at one more in
    (k.out_is ∙ x.0, x.1)

-- and a wrong one after them
up_to_wrong : (texts : List (List ℕ)) (wrong : List ℕ) (behind : List (List ℕ)) (old : Script) (out : List ℕ) (new : Script) → IsReached old → (k : AreDone texts old out new) → NoneRefused texts old out new k
    → is_wrong wrong new ≡ true → (out ≡ lines_write (texts ++ wrong ∷ behind) old) × (wrong_among (texts ++ wrong ∷ behind) old ≡ Some (length texts + 1))
up_to_wrong [] wrong behind old out new r k e f =
    let none : line_at old.standing wrong ≡ None = none_by old.standing (line_of wrong) (ap (λ (s : Script). is_wrong wrong s) (sym k.1) ∙ f) in
    (k.0 ∙ sym (ap (written_by behind old) none), ap (wrong_by behind old) none)
up_to_wrong (text ∷ texts) wrong behind old out new r k e f =
    let both = none_both (refused_doing k.done.line old k.first k.between k.done.does) _ e in
    let one = does_is k.done.line old k.first k.between r k.done.does both.0 in
    let more = up_to_wrong texts wrong behind k.between k.later new (reached_on text k.first old k.between r k.done) k.then_done both.1 f in
    let at = stands text old k.done.line k.done.is k.done.may_stand in
    let x = one_more text (texts ++ wrong ∷ behind) k.done.line old k.between k.first k.later (Some (length texts + 1)) at one more in
    (k.out_is ∙ x.0, x.1 ∙ ap (λ (n : ℕ). Some n) (omega arith))

-- ---- all that is read

begun : IsReached begins
begun = reached_by [] [] begins (refl, refl)

-- nothing is left of what was to be read
all_read : (input read : List ℕ) (left : Option (List ℕ)) → Consumes (Some input) left read → IsAtEnd left → input ≡ read
all_read input read None c e = absurd c
all_read input read (Some rest) c e = c ∙ ap (λ xs. read ++ xs) e ∙ append-nil read

-- an empty line isn't wrong
empty_right : (s : Script) → is_wrong [] s ≡ true → ⊥
unfolding line_of
empty_right s e = cc

last_wrong : (before : List (List ℕ)) (wrong : List ℕ) (last : Script) → AreLines before → IsLine wrong → is_wrong wrong last ≡ true → IsCutAfter (lines_of before ++ wrong) before wrong
last_wrong before [] last h k e = absurd (empty_right last e)
last_wrong before (c ∷ wrong) last h k e = last_cut before c wrong h k

wrong_cut : (input : List ℕ) (before : List (List ℕ)) (wrong behind read : List ℕ) (left : Option (List ℕ)) (last : Script) → Consumes (Some input) left read
    → read ≡ lines_of before ++ (wrong ++ behind) → AreLines before → IsLine wrong → EndsLine left behind → is_wrong wrong last ≡ true → IsCutAfter input before wrong
wrong_cut input before wrong [] read left last c is h k end e =
    let all : input ≡ lines_of before ++ wrong = all_read input read left c end ∙ is ∙ ap (λ xs. lines_of before ++ xs) (append-nil wrong) in
    subst (λ xs. IsCutAfter xs before wrong) (sym all) (last_wrong before wrong last h k e)
wrong_cut input before wrong (d ∷ behind) read None last c is h k end e = absurd c
wrong_cut input before wrong (d ∷ behind) read (Some left) last c is h k end e =
    let all : input ≡ lines_of before ++ (wrong ++ 10 ∷ (behind ++ left)) =
    c ∙ ap (λ xs. xs ++ left) (is ∙ ap (λ n. lines_of before ++ (wrong ++ n ∷ behind)) end)
    ∙ append_assoc (lines_of before) (wrong ++ 10 ∷ behind) left ∙ ap (λ xs. lines_of before ++ xs) (append_assoc wrong (10 ∷ behind) left) in
    subst (λ xs. IsCutAfter xs before wrong) (sym all) (fed_cut before wrong (behind ++ left) h k)

ended : (input : List ℕ) (left old new : Option (List ℕ)) (h : HasEnded (Some input) left old new) → NoneRefused (with_last h.lines h.rest) begins h.written h.last h.done
    → Appends old new (script_writes input) × (wrong_line input ≡ None)
ended input left old new h e =
    let x = all_written (with_last h.lines h.rest) begins h.written h.last begun h.done e in
    let cut : cut_lines input ≡ with_last h.lines h.rest = ap cut_lines (all_read input h.read left h.consumed h.at_end ∙ h.in_lines.is) ∙ text_cut h.lines h.rest h.in_lines.are_lines h.in_lines.is_line in (
      subst (Appends old new) (x.0 ∙ sym (ap (λ ls. lines_write ls begins) cut)) h.sent,
      ap (λ ls. wrong_among ls begins) cut ∙ x.1,
    )

failed : (input : List ℕ) (number : ℕ) (left old new : Option (List ℕ)) (h : HasFailed number (Some input) left old new) → NoneRefused h.before begins h.written h.last h.done
    → Appends old new (script_writes input) × (wrong_line input ≡ Some number)
failed input number left old new h e =
    let cut = wrong_cut input h.before h.wrong h.behind h.read left h.last h.consumed h.is h.are_lines h.is_line h.ends h.is_wrong in
    let x = up_to_wrong h.before h.wrong cut.more begins h.written h.last begun h.done e h.is_wrong in (
      subst (Appends old new) (x.0 ∙ sym (ap (λ ls. lines_write ls begins) cut.is)) h.sent,
      ap (λ ls. wrong_among ls begins) cut.is ∙ x.1 ∙ ap (λ (n : ℕ). Some n) (sym h.counted),
    )

pub script_law : ScriptLaw
script_law = record {
  settles = settles;
  lines = λ texts written last k e. all_written texts begins written last begun k e;
  ended = ended;
  failed = failed;
  stopped = λ unread left old new h e.
      subst (Appends old new) ((all_written h.lines begins h.written h.last begun h.done e).0 ∙ sym (ap (λ ls. lines_write ls begins) (ended_cut h.lines h.in_lines.are_lines))) h.sent;
  refused = λ unread left old new h e. subst (Appends old new) (all_written h.texts begins h.written h.last begun h.done e).0 h.sent;
  unwritten = λ unread left old new h e. subst (SendsFront old new) (all_written h.texts begins h.written h.last begun h.done e).0 h.sent;
}
