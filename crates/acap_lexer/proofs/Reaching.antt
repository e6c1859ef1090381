-- A scan that goes from stage to stage.
use Rattle.std.proofs.Common.{◌≡◌, ℕ, ◌+◌, ◌<◌, ◌≤◌, List, [], ◌++◌, length, drop, Option, Some, None, refl, sym, ap, subst, ◌∙◌, arith, zero-add, add_assoc, append_assoc, length-append, length-drop}
use Rattle.std.proofs.lemmas.List.{append-nil, drop-append-le, get_or_append_left}
use Rattle.acap_lexer.specs.declared.outcomes.Due.TheVariants as dues
use Rattle.acap_lexer.specs.declared.lexed.Lexed.{Lexed}
use Rattle.acap_lexer.specs.declared.lexed.Mode.{Mode}
use Rattle.acap_lexer.specs.declared.scan.Literal.{Literal}
use Rattle.acap_lexer.specs.declared.scan.Scan.{Scan}
use Rattle.acap_lexer.specs.Ends.{NoEnd}
use Rattle.acap_lexer.specs.Scanning.{IsSound, Reaches, IsDue, GoesOn, Stays, stage_of, stage_by, front_of}
use Rattle.acap_lexer.specs.Stream.{Front, Stage, Step, Waits, Ends, Goes, Progress, beginning, waiting, progress_by, step_of, octets_of, progress, progress_from}
use Rattle.acap_lexer.proofs.StepOutcomes.{Tells, step_tells}
use Rattle.acap_lexer.proofs.ProgressLaws.{by_stages}

no_more : (p : Progress) → p ≡ waiting 0 p
no_more p = ap (λ n. let q : Progress = record { waits = n; item = p.item } in q) (sym (zero-add p.waits))

pub reaches_beginning : (mode : Mode) (text : List ℕ) → progress mode text ≡ waiting 0 (progress_from mode beginning text)
unfolding progress
reaches_beginning mode text = no_more (progress_from mode beginning text)

pub reaches_start : (scan : Scan) → scan.octets ≡ 0 → stage_of scan ≡ beginning → scan.waits ≡ 0 → (text : List ℕ) → Reaches text scan
reaches_start scan o s w text more = rw (s, w) (reaches_beginning scan.mode (text ++ more))

octets_by : (literal : Option Literal) (front : Front) → octets_of (stage_by literal front) ≡ front.octets
octets_by None front = refl
octets_by (Some l) front = refl

pub octets_is : (scan : Scan) → octets_of (stage_of scan) ≡ scan.octets
octets_is scan = octets_by scan.literal (front_of scan)

waiting_on : (m n : ℕ) (p : Progress) → waiting m (waiting n p) ≡ waiting (m + n) p
waiting_on m n p = ap (λ k. let q : Progress = record { waits = k; item = p.item } in q) (sym (add_assoc m n p.waits))

-- the same step in every longer text
step_longer : (mode : Mode) (stage next : Stage) (text more : List ℕ) (plus : ℕ) → octets_of stage ≤ length text → step_of mode stage text ≡ Goes plus next
    → progress_from mode stage (text ++ more) ≡ waiting plus (progress_from mode next (text ++ more))
step_longer mode stage next text more plus within e =
    let t : Tells mode stage text (Goes plus next) = subst (Tells mode stage text) e (step_tells mode stage text within) in
    by_stages mode stage (text ++ more) (omega (arith, length-append text more)) ∙ ap (progress_by (λ s. progress_from mode s (text ++ more))) (t.1 more)

pub reaches_goes : (text : List ℕ) (old new : Scan) → IsSound text old → Reaches text old → GoesOn (step_of old.mode (stage_of old) text) old new → Reaches text new
reaches_goes text old new sound reaches g more =
    let within : octets_of (stage_of old) ≤ length text = omega (arith, octets_is old, sound.within) in
    let e : progress old.mode (text ++ more) ≡ waiting (old.waits + g.plus) (progress_from old.mode (stage_of new) (text ++ more)) =
    reaches more ∙ ap (waiting old.waits) (step_longer old.mode (stage_of old) (stage_of new) text more g.plus within g.step_is) ∙ waiting_on old.waits g.plus (progress_from old.mode (stage_of new) (text ++ more)) in
    rw (g.mode, g.waits) e

reaches_here : (text : List ℕ) (scan : Scan) → Reaches text scan → progress scan.mode text ≡ waiting scan.waits (progress_from scan.mode (stage_of scan) text)
reaches_here text scan reaches =
    subst (λ (t : List ℕ). progress scan.mode t ≡ waiting scan.waits (progress_from scan.mode (stage_of scan) t)) (append-nil text) (reaches [])

pub plus_due : (text : List ℕ) (scan : Scan) (told : ℕ) → Reaches text scan → told < scan.waits → IsDue scan.mode told text dues.Plus
plus_due text scan told reaches lt = omega (arith, ap (λ p. p.waits) (reaches_here text scan reaches))

stands : (text : List ℕ) (scan : Scan) (step : Step) → IsSound text scan → Reaches text scan → step_of scan.mode (stage_of scan) text ≡ step
    → progress scan.mode text ≡ waiting scan.waits (progress_by (λ next. progress_from scan.mode next text) step)
stands text scan step sound reaches e =
    let within : octets_of (stage_of scan) ≤ length text = omega (arith, octets_is scan, sound.within) in
    reaches_here text scan reaches ∙ ap (waiting scan.waits) (by_stages scan.mode (stage_of scan) text within ∙ ap (progress_by (λ next. progress_from scan.mode next text)) e)

pub more_due : (text : List ℕ) (old new : Scan) (told : ℕ) → IsSound text old → Reaches text old → old.waits ≤ told → Stays (step_of old.mode (stage_of old) text) old new → IsDue old.mode told text dues.More
more_due text old new told sound reaches le s =
    let p = stands text old Waits sound reaches s.step_is in
    (omega (arith, ap (λ q. q.waits) p), ap (λ q. q.item) p)

pub item_due : (text : List ℕ) (old : Scan) (told : ℕ) (lexed : Lexed) (n : ℕ) → IsSound text old → Reaches text old → old.waits ≤ told → step_of old.mode (stage_of old) text ≡ Ends lexed n
    → IsDue old.mode told text (dues.Item lexed n)
item_due text old told lexed n sound reaches le e =
    let p = stands text old (Ends lexed n) sound reaches e in
    (omega (arith, ap (λ q. q.waits) p), ap (λ q. q.item) p)

-- ---- a text that grows

pub reaches_more : (text piece : List ℕ) (scan : Scan) → Reaches text scan → Reaches (text ++ piece) scan
reaches_more text piece scan reaches more = rw (append_assoc text piece more) (reaches (piece ++ more))

no_end_more : (text piece : List ℕ) (looked : ℕ) → looked ≤ length text → NoEnd text looked → NoEnd (text ++ piece) looked
no_end_more text piece looked within none k lt return feed =
    none k lt (sym (get_or_append_left text piece 0 k (omega arith)) ∙ return) (sym (get_or_append_left text piece 0 (k + 1) (omega arith)) ∙ feed)

pub sound_more : (text piece : List ℕ) (scan : Scan) → IsSound text scan → IsSound (text ++ piece) scan
sound_more text piece scan s = record {
  within = omega (arith, s.within, length-append text piece);
  looked = omega (arith, s.looked, length-append text piece);
  none = rw (drop-append-le scan.octets text piece s.within) (no_end_more (drop scan.octets text) piece scan.looked (omega (arith, s.looked, length-drop scan.octets text)) s.none);
  waits = s.waits;
}
