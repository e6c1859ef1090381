-- A line that was heard stays, and a client is between two lines only where it has just heard one.
use Rattle.std.proofs.Common.{◌≡◌, ◌⊎◌, inl, inr, ℕ, zero, suc, ◌<◌, Bool, true, false, List, [], ◌∷◌, ◌++◌, map, length, Option, Some, None, refl, sym, ap, subst, ◌∙◌, ap₂, append_assoc, append-nil, length-append, arith, cond, eqb}
use Rattle.acap_lexer.specs.Octets.{is_word, is_digit, is_quotable, is_escaped}
use Rattle.acap_grammar.specs.Lines.{Datum, Word, Line, number_of, line_of}
use Rattle.acap_grammar.specs.Listening.{Client, Place, Between, Fresh, Ended, InWord, InQuotes, Escaping, Marking, Marked, Opening, Taking, Returned, Lost, added, closed_in, closed_empty, said_in, said, taking, marked, begun, ended, heard_at, heard, hears}
use Rattle.acap_grammar.specs.Readable.{after, IsLine, AreLines, HearingLaw}
use Rattle.acap_grammar.proofs.HeardStrings.{hears-append}

abbrev is_between : Place → Bool
is_between Between = true
is_between _ = false

-- no line more, and within one; or one more
abbrev Moves : Client → Client → Type 0
Moves old new = ((new.lines ≡ old.lines) × (is_between new.place ≡ false)) ⊎ ((x : Option Line) × (new.lines ≡ old.lines ++ x ∷ []))

if_moves : (old : Client) (b : Bool) (x y : Client) → Moves old x → Moves old y → Moves old (cond b x y)
if_moves old true x y p q = p
if_moves old false x y p q = q

closed_moves : (old : Client) (outer : List (List Datum)) (client : Client) → client.lines ≡ old.lines → Moves old (closed_in outer client)
closed_moves old [] client e = inl (e, refl)
closed_moves old (before ∷ outer) client e = inl (e, refl)

closed_empty_moves : (old : Client) (inner : List Datum) → Moves old (closed_empty inner old)
closed_empty_moves old [] = closed_moves old old.outer old refl
closed_empty_moves old (datum ∷ inner) = inl (refl, refl)

said_moves : (old : Client) (outer : List (List Datum)) → Moves old (said_in outer old)
said_moves old [] = inr (line_of old.inner, refl)
said_moves old (before ∷ outer) = inl (refl, refl)

taking_moves : (old : Client) (left : ℕ) (text : List ℕ) → Moves old (taking left text old)
taking_moves old zero text = inl (refl, refl)
taking_moves old (suc left) text = inl (refl, refl)

marked_moves : (old : Client) (count : Option ℕ) → Moves old (marked count old)
marked_moves old None = inl (refl, refl)
marked_moves old (Some count) = inl (refl, refl)

ended_moves : (old client : Client) (c : ℕ) → client.lines ≡ old.lines → Moves old (ended client c)
ended_moves old client c e =
    if_moves old (eqb c 32) _ _ (inl (e, refl)) (if_moves old (eqb c 41) _ _ (closed_moves old client.outer client e) (if_moves old (eqb c 13) _ _ (inl (e, refl)) (inl (e, refl))))

begun_moves : (old : Client) (c : ℕ) → Moves old (begun old c)
begun_moves old c =
    if_moves old (is_word c) _ _ (inl (refl, refl)) (if_moves old (eqb c 34) _ _ (inl (refl, refl)) (if_moves old (eqb c 123) _ _ (inl (refl, refl))
    (if_moves old (eqb c 40) _ _ (inl (refl, refl)) (if_moves old (eqb c 41) _ _ (closed_empty_moves old old.inner) (inl (refl, refl))))))

moves_at : (old : Client) (place : Place) (c : ℕ) → Moves old (heard_at place old c)
moves_at old Between c = if_moves old (is_word c) _ _ (inl (refl, refl)) (inl (refl, refl))
moves_at old Fresh c = begun_moves old c
moves_at old Ended c = ended_moves old old c refl
moves_at old (InWord word) c = if_moves old (is_word c) _ _ (inl (refl, refl)) (ended_moves old (added old (Word word)) c refl)
moves_at old (InQuotes text) c = if_moves old (eqb c 34) _ _ (inl (refl, refl)) (if_moves old (eqb c 92) _ _ (inl (refl, refl)) (if_moves old (is_quotable c) _ _ (inl (refl, refl)) (inl (refl, refl))))
moves_at old (Escaping text) c = if_moves old (is_escaped c) _ _ (inl (refl, refl)) (inl (refl, refl))
moves_at old (Marking digits) c = if_moves old (eqb c 125) _ _ (marked_moves old (number_of digits)) (if_moves old (is_digit c) _ _ (inl (refl, refl)) (inl (refl, refl)))
moves_at old (Marked count) c = if_moves old (eqb c 13) _ _ (inl (refl, refl)) (inl (refl, refl))
moves_at old (Opening count) c = if_moves old (eqb c 10) _ _ (taking_moves old count []) (inl (refl, refl))
moves_at old (Taking left text) c = taking_moves old left (text ++ c ∷ [])
moves_at old Returned c = if_moves old (eqb c 10) _ _ (said_moves old old.outer) (inl (refl, refl))
moves_at old Lost c = inl (refl, refl)

-- what octets add: some lines, and one at least if the client is between two lines then
pub record Adds (old new : Client) (octets : ℕ) : Type 0 where
  pub more : List (Option Line)
  pub lines : new.lines ≡ old.lines ++ more
  pub some : is_between new.place ≡ true → 0 < octets → 0 < length more

nothing_adds : (old : Client) → Adds old old 0
nothing_adds old = record { more = []; lines = sym (append-nil old.lines); some = λ p q. absurd (omega arith) }

adds_step : (old next new : Client) (octets : ℕ) → Moves old next → Adds next new octets → (octets ≡ 0 → new ≡ next) → Adds old new (suc octets)
adds_step old next new octets (inl m) a whole = record {
  more = a.more;
  lines = a.lines ∙ ap (λ (ls : List (Option Line)). ls ++ a.more) m.0;
  some = λ p q. some_by octets refl p;
}
  where
    some_by : (n : ℕ) → octets ≡ n → is_between new.place ≡ true → 0 < length a.more
    some_by zero e p = absurd (clash (sym (ap (λ (c : Client). is_between c.place) (whole e)) ∙ p) m.1)
      where
        clash : {b : Bool} → b ≡ true → b ≡ false → ⊥
        clash e1 e2 = cc
    some_by (suc n) e p = a.some p (omega (arith, e))
adds_step old next new octets (inr m) a whole = record {
  more = m.0 ∷ a.more;
  lines = a.lines ∙ ap (λ (ls : List (Option Line)). ls ++ a.more) m.1 ∙ append_assoc old.lines (m.0 ∷ []) a.more;
  some = λ p q. omega arith;
}

nothing_more : (client : Client) (text : List ℕ) → length text ≡ 0 → hears client text ≡ client
nothing_more client [] e = refl
nothing_more client (c ∷ text) e = absurd (omega (arith, e))

pub hears_adds : (text : List ℕ) (client : Client) → Adds client (hears client text) (length text)
hears_adds [] client = nothing_adds client
hears_adds (c ∷ text) client =
    adds_step client (heard client c) (hears client (c ∷ text)) (length text) (moves_at client client.place c) (hears_adds text (heard client c)) (nothing_more (heard client c) text)

-- ---- of a line

-- one line more in two parts, of which the second has one: the first has none
no_more : (lines : List (Option Line)) (front back : List (Option Line)) (x : Option Line) → (lines ++ front) ++ back ≡ lines ++ x ∷ [] → 0 < length back → front ≡ []
no_more lines [] back x e some = refl
no_more lines (y ∷ front) back x e some =
    absurd (omega (arith, ap length e, length-append (lines ++ y ∷ front) back, length-append lines (y ∷ front), length-append lines (x ∷ []), some))

part_of : (octets : List ℕ) (line : Option Line) → ((lines : List (Option Line)) → hears (after lines) octets ≡ after (lines ++ line ∷ []))
    → (lines : List (Option Line)) (front back : List ℕ) → octets ≡ front ++ back → 0 < length back → (hears (after lines) front).lines ≡ lines
part_of octets line whole lines front back e some =
    let middle = hears (after lines) front in
    let first = hears_adds front (after lines) in
    let last = hears_adds back middle in
    let end : hears middle back ≡ after (lines ++ line ∷ []) = sym (hears-append (after lines) front back) ∙ ap (hears (after lines)) (sym e) ∙ whole lines in
    let later : 0 < length last.more = last.some (ap (λ (c : Client). is_between c.place) end) some in
    let together : (lines ++ first.more) ++ last.more ≡ lines ++ line ∷ [] =
    ap (λ (ls : List (Option Line)). ls ++ last.more) (sym first.lines) ∙ sym last.lines ∙ ap (λ (c : Client). c.lines) end in
    first.lines ∙ ap (λ (ls : List (Option Line)). lines ++ ls) (no_more lines first.more last.more line together later) ∙ append-nil lines

-- what is heard whole is a line
pub line_from : (octets : List ℕ) (line : Line) → ((lines : List (Option Line)) → hears (after lines) octets ≡ after (lines ++ Some line ∷ [])) → IsLine octets line
line_from octets line whole = record { whole = whole; part = part_of octets (Some line) whole }

-- ---- of lines

pub lines_heard : (before : List (Option Line)) (octets : List ℕ) (said : List Line) → AreLines octets said → hears (after before) octets ≡ after (before ++ map Some said)
lines_heard before octets [] h = ap (hears (after before)) h ∙ ap after (sym (append-nil before))
lines_heard before octets (line ∷ lines) h =
    ap (hears (after before)) h.2
    ∙ hears-append (after before) h.0 h.1
    ∙ ap (λ s. hears s h.1) (h.3.whole before)
    ∙ lines_heard (before ++ Some line ∷ []) h.1 lines h.4
    ∙ ap after (append_assoc before (Some line ∷ []) (map Some lines))

pub lines-append : (a b : List ℕ) (xs ys : List Line) → AreLines a xs → AreLines b ys → AreLines (a ++ b) (xs ++ ys)
lines-append a b [] ys h k = subst (λ (front : List ℕ). AreLines (front ++ b) ys) (sym h) k
lines-append a b (x ∷ xs) ys h k =
    (h.0, h.1 ++ b, ap (λ (front : List ℕ). front ++ b) h.2 ∙ append_assoc h.0 h.1 b, h.3, lines-append h.1 b xs ys h.4 k)

within_line : (before : List (Option Line)) (octets front back : List ℕ) (said : List Line) (line : Line) → AreLines octets said → IsLine (front ++ back) line → 0 < length back
    → (hears (after before) (octets ++ front)).lines ≡ before ++ map Some said
within_line before octets front back said line h l some =
    ap (λ (c : Client). c.lines) (hears-append (after before) octets front ∙ ap (λ s. hears s front) (lines_heard before octets said h))
    ∙ l.part (before ++ map Some said) front back refl some

apart_by : (octets more : List ℕ) (line other : Line) → IsLine octets line → IsLine (octets ++ more) other → more ≡ []
apart_by octets [] line other l m = refl
apart_by octets (c ∷ more) line other l m =
    let none : (hears (after []) octets).lines ≡ [] = m.part [] octets (c ∷ more) refl (omega arith) in
    let one : (hears (after []) octets).lines ≡ Some line ∷ [] = ap (λ (s : Client). s.lines) (l.whole []) in
    absurd (omega (arith, ap length (sym none ∙ one)))

some_apart : (xs ys : List Line) → map Some xs ≡ map Some ys → xs ≡ ys
some_apart [] [] e = refl
some_apart [] (y ∷ ys) e = absurd (omega (arith, ap length e))
some_apart (x ∷ xs) [] e = absurd (omega (arith, ap length e))
some_apart (x ∷ xs) (y ∷ ys) e = ap₂ (λ (a : Line) (b : List Line). a ∷ b) (head_of e) (some_apart xs ys (ap tail_of e))
  where
    tail_of : List (Option Line) → List (Option Line)
    tail_of [] = []
    tail_of (z ∷ zs) = zs

    value : List (Option Line) → Line
    value [] = x
    value (None ∷ zs) = x
    value (Some z ∷ zs) = z

    head_of : map Some (x ∷ xs) ≡ map Some (y ∷ ys) → x ≡ y
    head_of e = ap value e

pub hearing : HearingLaw
hearing = record {
  pieces = hears-append;
  lines = lines_heard;
  joined = lines-append;
  within = within_line;
  apart = apart_by;
  one_way = λ octets said others h k. some_apart said others (ap (λ (c : Client). c.lines) (sym (lines_heard [] octets said h) ∙ lines_heard [] octets others k));
}
