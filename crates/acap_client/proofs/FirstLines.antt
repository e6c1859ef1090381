-- The line that stands first is the first that is heard.
use Rattle.std.proofs.Common.{◌≡◌, ◌⊎◌, inl, inr, ℕ, zero, suc, ◌+◌, ◌<◌, ◌≤◌, Bool, true, false, List, [], ◌∷◌, ◌++◌, length, take, drop, Option, Some, None, refl, sym, ap, subst, ◌∙◌, append_assoc, append-nil, arith, cond, eqb, ltb, length-take, length-drop}
use Rattle.std.proofs.lemmas.Bool.{ltb-true, ltb-false, cases_lt}
use Rattle.std.proofs.lemmas.List.{take-append-le, take_all, take-append-drop}
use Rattle.acap_grammar.proofs.HeardStrings.{hears-append}
use Rattle.acap_lexer.specs.Octets.{is_word, is_digit, is_quotable, is_escaped}
use Rattle.acap_grammar.specs.Lines.{Datum, Word, Line, number_of, line_of}
use Rattle.acap_grammar.specs.Listening.{Client, Place, Between, Fresh, Ended, InWord, InQuotes, Escaping, Marking, Marked, Opening, Taking, Returned, Lost, added, closed_in, closed_empty, said_in, taking, marked, begun, ended, heard_at, heard, hears}
use Rattle.acap_grammar.specs.Readable.{after, IsLine}
use Rattle.acap_client.specs.Laws.{IsFirst, FirstLaw}
use Rattle.acap_client.specs.Reading.{First, NotYet, Whole, Astray, TooLong, judged_by, judged, first_from, first_of}

-- ---- a client that has heard lines before

abbrev led : List (Option Line) → Client → Client
led before client = record client { lines = before ++ client.lines }

module _ (before : List (Option Line)) where
  if_led : (b : Bool) (x y other_x other_y : Client) → other_x ≡ led before x → other_y ≡ led before y → cond b other_x other_y ≡ led before (cond b x y)
  if_led true x y other_x other_y p q = p
  if_led false x y other_x other_y p q = q

  closed_led : (outer : List (List Datum)) (client : Client) → closed_in outer (led before client) ≡ led before (closed_in outer client)
  closed_led [] client = refl
  closed_led (first ∷ outer) client = refl

  closed_empty_led : (inner : List Datum) (client : Client) → closed_empty inner (led before client) ≡ led before (closed_empty inner client)
  closed_empty_led [] client = closed_led client.outer client
  closed_empty_led (datum ∷ inner) client = refl

  said_led : (outer : List (List Datum)) (client : Client) → said_in outer (led before client) ≡ led before (said_in outer client)
  said_led [] client = ap after (append_assoc before client.lines (line_of client.inner ∷ []))
  said_led (first ∷ outer) client = refl

  taking_led : (left : ℕ) (text : List ℕ) (client : Client) → taking left text (led before client) ≡ led before (taking left text client)
  taking_led zero text client = refl
  taking_led (suc left) text client = refl

  marked_led : (count : Option ℕ) (client : Client) → marked count (led before client) ≡ led before (marked count client)
  marked_led None client = refl
  marked_led (Some count) client = refl

  ended_led : (client : Client) (c : ℕ) → ended (led before client) c ≡ led before (ended client c)
  ended_led client c =
      if_led (eqb c 32) _ _ _ _ refl (if_led (eqb c 41) _ _ _ _ (closed_led client.outer client) (if_led (eqb c 13) _ _ _ _ refl refl))

  begun_led : (client : Client) (c : ℕ) → begun (led before client) c ≡ led before (begun client c)
  begun_led client c =
      if_led (is_word c) _ _ _ _ refl (if_led (eqb c 34) _ _ _ _ refl (if_led (eqb c 123) _ _ _ _ refl
      (if_led (eqb c 40) _ _ _ _ refl (if_led (eqb c 41) _ _ _ _ (closed_empty_led client.inner client) refl))))

  heard_led : (place : Place) (client : Client) (c : ℕ) → heard_at place (led before client) c ≡ led before (heard_at place client c)
  heard_led Between client c = if_led (is_word c) _ _ _ _ refl refl
  heard_led Fresh client c = begun_led client c
  heard_led Ended client c = ended_led client c
  heard_led (InWord word) client c = if_led (is_word c) _ _ _ _ refl (ended_led (added client (Word word)) c)
  heard_led (InQuotes text) client c = if_led (eqb c 34) _ _ _ _ refl (if_led (eqb c 92) _ _ _ _ refl (if_led (is_quotable c) _ _ _ _ refl refl))
  heard_led (Escaping text) client c = if_led (is_escaped c) _ _ _ _ refl refl
  heard_led (Marking digits) client c = if_led (eqb c 125) _ _ _ _ (marked_led (number_of digits) client) (if_led (is_digit c) _ _ _ _ refl refl)
  heard_led (Marked count) client c = if_led (eqb c 13) _ _ _ _ refl refl
  heard_led (Opening count) client c = if_led (eqb c 10) _ _ _ _ (taking_led count [] client) refl
  heard_led (Taking left text) client c = taking_led left (text ++ c ∷ []) client
  heard_led Returned client c = if_led (eqb c 10) _ _ _ _ (said_led client.outer client) refl
  heard_led Lost client c = refl

  pub hears_led : (octets : List ℕ) (client : Client) → hears (led before client) octets ≡ led before (hears client octets)
  hears_led [] client = refl
  hears_led (c ∷ octets) client = ap (λ s. hears s octets) (heard_led client.place client c) ∙ hears_led octets (heard client c)

hears_after : (before : List (Option Line)) (octets : List ℕ) → hears (after before) octets ≡ led before (hears (after []) octets)
hears_after before octets = ap (λ (lines : List (Option Line)). hears (after lines) octets) (sym (append-nil before)) ∙ hears_led before octets (after [])

-- ---- a line ends where a client is between two lines

abbrev Turns : Client → Client → Type 0
Turns old new = (new.lines ≡ old.lines) ⊎ ((x : Option Line) × (new ≡ after (old.lines ++ x ∷ [])))

if_turns : (old : Client) (b : Bool) (x y : Client) → Turns old x → Turns old y → Turns old (cond b x y)
if_turns old true x y p q = p
if_turns old false x y p q = q

closed_turns : (old : Client) (outer : List (List Datum)) (client : Client) → client.lines ≡ old.lines → Turns old (closed_in outer client)
closed_turns old [] client e = inl e
closed_turns old (before ∷ outer) client e = inl e

closed_empty_turns : (old : Client) (inner : List Datum) → Turns old (closed_empty inner old)
closed_empty_turns old [] = closed_turns old old.outer old refl
closed_empty_turns old (datum ∷ inner) = inl refl

said_turns : (old : Client) (outer : List (List Datum)) → Turns old (said_in outer old)
said_turns old [] = inr (line_of old.inner, refl)
said_turns old (before ∷ outer) = inl refl

taking_turns : (old : Client) (left : ℕ) (text : List ℕ) → Turns old (taking left text old)
taking_turns old zero text = inl refl
taking_turns old (suc left) text = inl refl

marked_turns : (old : Client) (count : Option ℕ) → Turns old (marked count old)
marked_turns old None = inl refl
marked_turns old (Some count) = inl refl

ended_turns : (old client : Client) (c : ℕ) → client.lines ≡ old.lines → Turns old (ended client c)
ended_turns old client c e =
    if_turns old (eqb c 32) _ _ (inl e) (if_turns old (eqb c 41) _ _ (closed_turns old client.outer client e) (if_turns old (eqb c 13) _ _ (inl e) (inl e)))

begun_turns : (old : Client) (c : ℕ) → Turns old (begun old c)
begun_turns old c =
    if_turns old (is_word c) _ _ (inl refl) (if_turns old (eqb c 34) _ _ (inl refl) (if_turns old (eqb c 123) _ _ (inl refl)
    (if_turns old (eqb c 40) _ _ (inl refl) (if_turns old (eqb c 41) _ _ (closed_empty_turns old old.inner) (inl refl)))))

turns_at : (old : Client) (place : Place) (c : ℕ) → Turns old (heard_at place old c)
turns_at old Between c = if_turns old (is_word c) _ _ (inl refl) (inl refl)
turns_at old Fresh c = begun_turns old c
turns_at old Ended c = ended_turns old old c refl
turns_at old (InWord word) c = if_turns old (is_word c) _ _ (inl refl) (ended_turns old (added old (Word word)) c refl)
turns_at old (InQuotes text) c = if_turns old (eqb c 34) _ _ (inl refl) (if_turns old (eqb c 92) _ _ (inl refl) (if_turns old (is_quotable c) _ _ (inl refl) (inl refl)))
turns_at old (Escaping text) c = if_turns old (is_escaped c) _ _ (inl refl) (inl refl)
turns_at old (Marking digits) c = if_turns old (eqb c 125) _ _ (marked_turns old (number_of digits)) (if_turns old (is_digit c) _ _ (inl refl) (inl refl))
turns_at old (Marked count) c = if_turns old (eqb c 13) _ _ (inl refl) (inl refl)
turns_at old (Opening count) c = if_turns old (eqb c 10) _ _ (taking_turns old count []) (inl refl)
turns_at old (Taking left text) c = taking_turns old left (text ++ c ∷ [])
turns_at old Returned c = if_turns old (eqb c 10) _ _ (said_turns old old.outer) (inl refl)
turns_at old Lost c = inl refl

-- a client that has heard no line, and hears an octet
turns_once : (client : Client) (c : ℕ) → client.lines ≡ [] → ((heard client c).lines ≡ []) ⊎ ((x : Option Line) × (heard client c ≡ after (x ∷ [])))
turns_once client c none = elim (turns_at client client.place c) [
  | inl same ↦ inl (same ∙ none)
  | inr x ↦ inr (x.0, x.1 ∙ ap (λ (lines : List (Option Line)). after (lines ++ x.0 ∷ [])) none)
]

-- ---- the octets of a literal

-- so many octets end no line
abbrev Owes : ℕ → Place → Type 0
Owes k (Marked count) = k ≤ count + 2
Owes k (Opening count) = k ≤ count + 1
Owes k (Taking left text) = k ≤ left + 1
Owes k Lost = Unit {0}
Owes k _ = k ≡ 0

-- no line was heard, and so many octets end none
record IsQuiet (k : ℕ) (client : Client) : Type 0 where
  none : client.lines ≡ []
  owes : Owes k client.place

if_quiet : (k : ℕ) (b : Bool) (x y : Client) → IsQuiet k x → IsQuiet k y → IsQuiet k (cond b x y)
if_quiet k true x y p q = p
if_quiet k false x y p q = q

taking_quiet : (k left : ℕ) (text : List ℕ) (client : Client) → k ≤ left → client.lines ≡ [] → IsQuiet k (taking left text client)
taking_quiet k zero text client few none = record { none = none; owes = omega arith }
taking_quiet k (suc left) text client few none = record { none = none; owes = omega arith }

quiet_step : (k : ℕ) (place : Place) (client : Client) (c : ℕ) → client.lines ≡ [] → Owes (suc k) place → IsQuiet k (heard_at place client c)
quiet_step k (Marked count) client c none owes = if_quiet k (eqb c 13) _ _ (record { none = none; owes = omega arith }) (record { none = none; owes = tt })
quiet_step k (Opening count) client c none owes = if_quiet k (eqb c 10) _ _ (taking_quiet k count [] client (omega arith) none) (record { none = none; owes = tt })
quiet_step k (Taking left text) client c none owes = taking_quiet k left (text ++ c ∷ []) client (omega arith) none
quiet_step k Lost client c none owes = record { none = none; owes = tt }
quiet_step k _ client c none owes = absurd (omega arith)

quiet : (octets : List ℕ) (k : ℕ) (client : Client) → length octets ≤ k → IsQuiet k client → (hears client octets).lines ≡ []
quiet [] k client few q = q.none
quiet (c ∷ octets) zero client few q = absurd (omega arith)
quiet (c ∷ octets) (suc k) client few q = quiet octets k (heard client c) (omega arith) (quiet_step k client.place client c q.none q.owes)

lost_stays : (octets : List ℕ) (client : Client) → client.place ≡ Lost → hears client octets ≡ client
lost_stays [] client e = refl
lost_stays (c ∷ octets) client e =
    let once : heard client c ≡ client = rw e refl in
    ap (λ s. hears s octets) once ∙ lost_stays octets client e

-- ---- what came of octets

record IsHere (limit at : ℕ) (client : Client) (octets : List ℕ) (says : Option Line) (there : ℕ) : Type 0 where
  n : ℕ
  there_is : there ≡ at + n
  some : 0 < n
  within : n ≤ length octets
  below : there ≤ limit
  none : (m : ℕ) → m < n → (hears client (take m octets)).lines ≡ []
  heard_as : hears client (take n octets) ≡ after (says ∷ [])

abbrev Came : ℕ → ℕ → Client → List ℕ → First → Type 0
Came limit at client octets NotYet = (hears client octets).lines ≡ []
Came limit at client octets (Whole says there) = IsHere limit at client octets says there
Came limit at client octets Astray = ((hears client octets).lines ≡ []) × ((hears client octets).place ≡ Lost)
Came limit at client octets TooLong = (n : ℕ) → at + n ≤ limit → (hears client (take n octets)).lines ≡ []

module _ (limit at : ℕ) (client : Client) (c : ℕ) (rest : List ℕ) (before : client.lines ≡ []) where
  none_before : ((m : ℕ) → (hears (heard client c) (take m rest)).lines ≡ []) → (n : ℕ) → (hears client (take n (c ∷ rest))).lines ≡ []
  none_before later zero = before
  none_before later (suc m) = later m

  fewer : (n : ℕ) → ((m : ℕ) → m < n → (hears (heard client c) (take m rest)).lines ≡ []) → (m : ℕ) → m < suc n → (hears client (take m (c ∷ rest))).lines ≡ []
  fewer n later zero lt = before
  fewer n later (suc m) lt = later m (omega arith)

  up_to : ((m : ℕ) → (at + 1) + m ≤ limit → (hears (heard client c) (take m rest)).lines ≡ []) → (n : ℕ) → at + n ≤ limit → (hears client (take n (c ∷ rest))).lines ≡ []
  up_to later zero within = before
  up_to later (suc m) within = later m (omega arith)

  one_more : (first : First) → Came limit (at + 1) (heard client c) rest first → Came limit at client (c ∷ rest) first
  one_more NotYet came = came
  one_more Astray came = came
  one_more TooLong came = up_to came
  one_more (Whole says there) here = record {
    n = suc here.n;
    there_is = omega (arith, here.there_is);
    some = omega arith;
    within = omega (arith, here.within);
    below = here.below;
    none = fewer here.n here.none;
    heard_as = here.heard_as;
  }

  -- a line ends here
  ends_here : (x : Option Line) → at < limit → heard client c ≡ after (x ∷ []) → IsHere limit at client (c ∷ rest) x (at + 1)
  ends_here x below e = record {
    n = suc zero;
    there_is = omega arith;
    some = omega arith;
    within = omega arith;
    below = omega arith;
    none = fewer zero (λ m lt. absurd (omega arith));
    heard_as = e;
  }

  -- no line ends here
  judged_here : (place : Place) → (heard client c).place ≡ place → (heard client c).lines ≡ [] → at < limit → (first : First) → Came limit (at + 1) (heard client c) rest first
      → Came limit at client (c ∷ rest) (judged_by limit (at + 1) [] place first)
  judged_here Lost e none below first came =
      let stays = lost_stays rest (heard client c) e in
      (ap (λ (s : Client). s.lines) stays ∙ none, ap (λ (s : Client). s.place) stays ∙ e)
  judged_here (Marked count) e none below first came = by_test (ltb limit ((at + 1) + count)) refl
    where
      by_test : (b : Bool) → ltb limit ((at + 1) + count) ≡ b → Came limit at client (c ∷ rest) (cond b TooLong first)
      by_test false t = one_more first came
      by_test true t = up_to (λ m within.
          let owes : Owes m (heard client c).place = rw e (omega (arith, ltb-true limit ((at + 1) + count) t)) in
          quiet (take m rest) m (heard client c) (omega (arith, length-take m rest)) (record { none = none; owes = owes }))
  judged_here _ e none below first came = one_more first came

came : (octets : List ℕ) (limit at : ℕ) (client : Client) → client.lines ≡ [] → Came limit at client octets (first_from limit at client octets)
came [] limit at client before = before
came (c ∷ rest) limit at client before = by_test (ltb at limit) refl (λ none. came rest limit (at + 1) (heard client c) none)
  where
    by_turn : ((heard client c).lines ≡ []) ⊎ ((x : Option Line) × (heard client c ≡ after (x ∷ []))) → at < limit
        → ((heard client c).lines ≡ [] → Came limit (at + 1) (heard client c) rest (first_from limit (at + 1) (heard client c) rest))
        → Came limit at client (c ∷ rest) (judged limit (at + 1) (heard client c) (first_from limit (at + 1) (heard client c) rest))
    by_turn (inr x) below later =
        subst (λ (s : Client). Came limit at client (c ∷ rest) (judged limit (at + 1) s (first_from limit (at + 1) (heard client c) rest))) (sym x.1)
        (ends_here limit at client c rest before x.0 below x.1)
    by_turn (inl none) below later =
        subst (λ (lines : List (Option Line)). Came limit at client (c ∷ rest) (judged_by limit (at + 1) lines (heard client c).place (first_from limit (at + 1) (heard client c) rest))) (sym none)
        (judged_here limit at client c rest before (heard client c).place refl none below _ (later none))

    by_test : (b : Bool) → ltb at limit ≡ b
        → ((heard client c).lines ≡ [] → Came limit (at + 1) (heard client c) rest (first_from limit (at + 1) (heard client c) rest))
        → Came limit at client (c ∷ rest) (cond b (judged limit (at + 1) (heard client c) (first_from limit (at + 1) (heard client c) rest)) TooLong)
    by_test false t later = up_to limit at client c rest before (λ m within. absurd (omega (arith, ltb-false at limit t)))
    by_test true t later = by_turn (turns_once client c before) (ltb-true at limit t) later

came_of : (limit : ℕ) (octets : List ℕ) (first : First) → first_of limit octets ≡ first → Came limit 0 (after []) octets first
unfolding first_of
came_of limit octets first e = subst (Came limit 0 (after []) octets) e (came octets limit 0 (after []) refl)

is_first : (limit : ℕ) (octets : List ℕ) (says : Option Line) (at : ℕ) → IsHere limit 0 (after []) octets says at → IsFirst limit octets says at
is_first limit octets says at here =
    let same : at ≡ here.n = omega (arith, here.there_is) in
    record {
      some = omega (arith, same, here.some);
      within = omega (arith, same, here.within);
      below = here.below;
      none = λ n lt. here.none n (omega (arith, same));
      heard = λ before. rw same (hears_after before (take here.n octets) ∙ ap (led before) here.heard_as);
    }

-- ---- a line that is there is answered

line_then : (octets more : List ℕ) (says : Line) → IsLine octets says → (hears (after []) (octets ++ more)).lines ≡ [] → ⊥
line_then octets more says l none =
    let split = hears-append (after []) octets more ∙ ap (λ s. hears s more) (l.whole []) ∙ hears_after (Some says ∷ []) more in
    absurd (omega (arith, ap (λ (s : Client). length s.lines) (sym split), ap length none))

module _ (limit : ℕ) (octets more : List ℕ) (says : Line) (l : IsLine octets says) (below : length octets ≤ limit) where
  prefix_is : take (length octets) (octets ++ more) ≡ octets
  prefix_is = take-append-le (length octets) octets more (omega arith) ∙ take_all (length octets) octets (omega arith)

  not_quiet : (hears (after []) (take (length octets) (octets ++ more))).lines ≡ [] → ⊥
  not_quiet none =
      let lines = ap (λ (xs : List ℕ). (hears (after []) xs).lines) prefix_is ∙ ap (λ (s : Client). s.lines) (l.whole []) in
      absurd (omega (arith, ap length lines, ap length none))

  only_whole : (first : First) → Came limit 0 (after []) (octets ++ more) first → first ≡ Whole (Some says) (length octets)
  only_whole NotYet came = absurd (line_then octets more says l came)
  only_whole Astray came = absurd (line_then octets more says l came.0)
  only_whole TooLong came = absurd (not_quiet (came (length octets) (omega arith)))
  only_whole (Whole x there) here = by_length (cases_lt here.n (length octets))
    where
      same_length : here.n ≡ length octets → Whole x there ≡ Whole (Some says) (length octets)
      same_length e =
          let heard_now : after (x ∷ []) ≡ after (Some says ∷ []) =
          sym here.heard_as ∙ ap (λ n. hears (after []) (take n (octets ++ more))) e ∙ ap (hears (after [])) prefix_is ∙ l.whole [] in
          let says_is : x ≡ Some says = ap (λ (s : Client). first_line s.lines) heard_now in
          rw (says_is, here.there_is) (ap (λ n. Whole (Some says) n) (omega (arith, e)))
        where
          first_line : List (Option Line) → Option Line
          first_line [] = x
          first_line (y ∷ ys) = y

      shorter : here.n < length octets → ⊥
      shorter lt =
          let prefix = take here.n octets in
          let here_as = take-append-le here.n octets more (omega arith) in
          let none = l.part [] prefix (drop here.n octets) (sym (take-append-drop here.n octets)) (omega (arith, length-drop here.n octets)) in
          let some = ap (λ (xs : List ℕ). (hears (after []) xs).lines) (sym here_as) ∙ ap (λ (s : Client). s.lines) here.heard_as in
          absurd (omega (arith, ap length none, ap length some))

      by_length : (here.n < length octets) ⊎ (length octets ≤ here.n) → Whole x there ≡ Whole (Some says) (length octets)
      by_length (inl lt) = absurd (shorter lt)
      by_length (inr le) = by_more (cases_lt (length octets) here.n)
        where
          by_more : (length octets < here.n) ⊎ (here.n ≤ length octets) → Whole x there ≡ Whole (Some says) (length octets)
          by_more (inl lt) = absurd (not_quiet (here.none (length octets) lt))
          by_more (inr few) = same_length (omega arith)

led_lines : (before : List (Option Line)) (octets : List ℕ) → (hears (after []) octets).lines ≡ [] → (hears (after before) octets).lines ≡ before
led_lines before octets none = ap (λ (s : Client). s.lines) (hears_after before octets) ∙ ap (λ (lines : List (Option Line)). before ++ lines) none ∙ append-nil before

pub first_law : FirstLaw
first_law = record {
  whole = λ limit octets says at e. is_first limit octets says at (came_of limit octets (Whole says at) e);
  not_yet = λ limit octets e before. led_lines before octets (came_of limit octets NotYet e);
  astray = λ limit octets e before.
      let lost = came_of limit octets Astray e in
      (led_lines before octets lost.0, ap (λ (s : Client). s.place) (hears_after before octets) ∙ lost.1);
  line = λ limit octets more says l below. only_whole limit octets more says l below _ (came_of limit (octets ++ more) _ refl);
}
