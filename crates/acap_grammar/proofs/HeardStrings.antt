-- Numbers and strings that were printed are heard as what they were.
use Rattle.std.proofs.Common.{◌≡◌, ℕ, zero, suc, ◌+◌, ◌-◌, ◌*◌, ◌<◌, ◌^◌, Bool, true, false, List, [], ◌∷◌, ◌++◌, length, Some, refl, sym, ap, ◌∙◌, append_assoc, append-nil, eqb, leb, arith, rules, decimal, Option}
use Rattle.std.specs.Prelude.{◌&&◌, fold}
use Rattle.std.specs.List.{list_all}
use Rattle.std.specs.Str.{is_utf8}
use Rattle.std.proofs.lemmas.Bool.{and_parts, le-leb, leb-true, ne_eqb}
use Rattle.std.proofs.lemmas.Fmt.{digits_decimal, digits_value-decimal, decimal_nonempty}
use Rattle.std.proofs.lemmas.Str.Parse.{IsNumeralModel, numerals_by_fold}
use Rattle.acap_lexer.specs.Octets.{is_word, is_digit, is_escaped}
use Rattle.acap_lexer.specs.Printing.{escape, escaped_form, is_printable, may_quote, quoted_form, literal, printed_form}
use Rattle.acap_lexer.proofs.Quoting.{plain, is_plain}
use Rattle.acap_grammar.specs.Lines.{Text, number_of}
use Rattle.acap_grammar.specs.Listening.{Client, Place, Fresh, InQuotes, Escaping, Marking, Marked, Opening, Taking, turned, added, taking, marked, heard, hears}

pub hears-append : (client : Client) (front back : List ℕ) → hears client (front ++ back) ≡ hears (hears client front) back
hears-append client [] back = refl
hears-append client (c ∷ front) back = hears-append (heard client c) front back

-- ---- numbers

abbrev read_on : ℕ → List ℕ → ℕ
read_on n digits = fold (λ n d. 10 * n + (d - 48)) n digits

numerals : IsNumeralModel (λ ds. list_all is_digit ds ≡ true) (read_on 0)
unfolding is_digit
numerals = numerals_by_fold _ (search rules) read_on (search rules)

pub all_digits : (n : ℕ) → n < 2 ^ 64 → list_all is_digit (decimal n) ≡ true
all_digits n small = digits_decimal numerals n small

pub some_digits : (n : ℕ) → n < 2 ^ 64 → leb 1 (length (decimal n)) ≡ true
some_digits n small = le-leb _ _ (decimal_nonempty n small)

pub number_back : (n : ℕ) → n < 2 ^ 64 → number_of (decimal n) ≡ Some n
unfolding number_of
number_back n small =
    let value : read_on 0 (decimal n) ≡ n = digits_value-decimal numerals n small in
    rw (all_digits n small, some_digits n small, value) refl

-- ---- between quotes

hears_escape : (client : Client) (so_far : List ℕ) (c : ℕ) (b : Bool) → is_escaped c ≡ b → is_printable c ≡ true
    → hears (turned client (InQuotes so_far)) (escape c) ≡ turned client (InQuotes (so_far ++ c ∷ []))
hears_escape client so_far c true e printable =
    let form : escape c ≡ 92 ∷ c ∷ [] = rw e refl in
    let second : heard (turned client (Escaping so_far)) c ≡ turned client (InQuotes (so_far ++ c ∷ [])) = rw e refl in
    ap (hears (turned client (InQuotes so_far))) form ∙ second
hears_escape client so_far c false e printable =
    let quotable = is_plain c printable e in
    let p = plain c quotable in
    let form : escape c ≡ c ∷ [] = rw e refl in
    let alone : heard (turned client (InQuotes so_far)) c ≡ turned client (InQuotes (so_far ++ c ∷ [])) = rw (p.0, p.1, quotable) refl in
    ap (hears (turned client (InQuotes so_far))) form ∙ alone

quoted_on : (client : Client) (so_far text : List ℕ) → list_all is_printable text ≡ true
    → hears (turned client (InQuotes so_far)) (escaped_form text) ≡ turned client (InQuotes (so_far ++ text))
quoted_on client so_far [] p = ap (λ (w : List ℕ). turned client (InQuotes w)) (sym (append-nil so_far))
quoted_on client so_far (c ∷ text) p =
    let parts = and_parts (is_printable c) (list_all is_printable text) p in
    hears-append (turned client (InQuotes so_far)) (escape c) (escaped_form text)
    ∙ ap (λ s. hears s (escaped_form text)) (hears_escape client so_far c (is_escaped c) refl parts.0)
    ∙ quoted_on client (so_far ++ c ∷ []) text parts.1
    ∙ ap (λ (w : List ℕ). turned client (InQuotes w)) (append_assoc so_far (c ∷ []) text)

quoted : (client : Client) (text : List ℕ) → may_quote text ≡ true → hears (turned client Fresh) (quoted_form text) ≡ added client (Text text)
unfolding quoted_form may_quote is_word
quoted client text m =
    let parts = and_parts (leb (length (escaped_form text)) 1024) (is_utf8 text && list_all is_printable text) m in
    let printable = (and_parts (is_utf8 text) (list_all is_printable text) parts.1).1 in
    hears-append (turned client (InQuotes [])) (escaped_form text) (34 ∷ [])
    ∙ ap (λ s. hears s (34 ∷ [])) (quoted_on client [] text printable)

-- ---- after a mark

digit_goes_on : (c : ℕ) → is_digit c ≡ true → eqb c 125 ≡ false
unfolding is_digit
digit_goes_on c e =
    let parts = and_parts (leb 48 c) (leb c 57) e in
    let few = leb-true c 57 parts.1 in
    ne_eqb c 125 (λ is. omega arith)

marking_on : (client : Client) (so_far digits : List ℕ) → list_all is_digit digits ≡ true
    → hears (turned client (Marking so_far)) digits ≡ turned client (Marking (so_far ++ digits))
marking_on client so_far [] p = ap (λ (w : List ℕ). turned client (Marking w)) (sym (append-nil so_far))
marking_on client so_far (c ∷ digits) p =
    let parts = and_parts (is_digit c) (list_all is_digit digits) p in
    let one : heard (turned client (Marking so_far)) c ≡ turned client (Marking (so_far ++ c ∷ [])) = rw (digit_goes_on c parts.0, parts.0) refl in
    ap (λ s. hears s digits) one
    ∙ marking_on client (so_far ++ c ∷ []) digits parts.1
    ∙ ap (λ (w : List ℕ). turned client (Marking w)) (append_assoc so_far (c ∷ []) digits)

-- where the client stood before changes nothing
taking_same : (client : Client) (place : Place) (left : ℕ) (text : List ℕ) → taking left text (turned client place) ≡ taking left text client
taking_same client place zero text = refl
taking_same client place (suc left) text = refl

pub taking_on : (client : Client) (so_far text : List ℕ) → hears (taking (length text) so_far client) text ≡ added client (Text (so_far ++ text))
taking_on client so_far [] = ap (λ (w : List ℕ). added client (Text w)) (sym (append-nil so_far))
taking_on client so_far (c ∷ text) =
    ap (λ s. hears s text) (taking_same client (Taking (length text) so_far) (length text) (so_far ++ c ∷ []))
    ∙ taking_on client (so_far ++ c ∷ []) text
    ∙ ap (λ (w : List ℕ). added client (Text w)) (append_assoc so_far (c ∷ []) text)

literal_read : (client : Client) (text : List ℕ) → length text < 2 ^ 64 → hears (turned client Fresh) (literal text) ≡ added client (Text text)
unfolding literal is_word
literal_read client text small =
    let n = length text in
    let form : literal text ≡ 123 ∷ (decimal n ++ 125 ∷ 13 ∷ 10 ∷ text) = ap (λ (w : List ℕ). 123 ∷ w) (append_assoc (decimal n) (125 ∷ 13 ∷ 10 ∷ []) text) in
    let mark = hears-append (turned client (Marking [])) (decimal n) (125 ∷ 13 ∷ 10 ∷ text) in
    let digits = ap (λ s. hears s (125 ∷ 13 ∷ 10 ∷ text)) (marking_on client [] (decimal n) (all_digits n small)) in
    let closes : heard (turned client (Marking (decimal n))) 125 ≡ turned client (Marked n) = ap (λ (o : Option ℕ). marked o (turned client (Marking (decimal n)))) (number_back n small) in
    ap (hears (turned client Fresh)) form ∙ mark ∙ digits ∙ ap (λ s. hears s (13 ∷ 10 ∷ text)) closes ∙ ap (λ s. hears s text) (taking_same client (Opening n) n []) ∙ taking_on client [] text

string_by : (client : Client) (text : List ℕ) (b : Bool) → may_quote text ≡ b → length text < 2 ^ 64 → hears (turned client Fresh) (printed_form text) ≡ added client (Text text)
unfolding printed_form
string_by client text true e small = rw e (quoted client text e)
string_by client text false e small = rw e (literal_read client text small)

pub string_read : (client : Client) (text : List ℕ) → length text < 2 ^ 64 → hears (turned client Fresh) (printed_form text) ≡ added client (Text text)
string_read client text small = string_by client text (may_quote text) refl small
