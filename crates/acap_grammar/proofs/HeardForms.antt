-- Data that were printed with one space between two are heard as these data.
use Rattle.std.proofs.Common.{◌≡◌, ℕ, ◌<◌, ◌≤◌, ◌^◌, Bool, true, false, List, [], ◌∷◌, ◌++◌, map, length, refl, sym, ap, subst, ◌∙◌, append_assoc, append-nil, length-append, arith, leb, decimal}
use Rattle.std.specs.Prelude.{◌&&◌}
use Rattle.std.specs.List.{list_all}
use Rattle.std.proofs.lemmas.Bool.{and_parts, and_from, or_left, or_right, leb-true, le-leb}
use Rattle.acap_lexer.specs.Octets.{is_word, is_digit}
use Rattle.std.specs.Str.{is_utf8}
use Rattle.acap_lexer.specs.Printing.{printed_form, may_quote, literal, escaped_form, is_printable}
use Rattle.acap_lexer.proofs.PrintedLength.{length-escaped}
use Rattle.acap_grammar.specs.Lines.{Datum, Word, Text, group}
use Rattle.acap_grammar.specs.Listening.{Client, Between, Fresh, Ended, InWord, turned, heard, hears}
use Rattle.acap_grammar.specs.Replies.{behind_spaces, between_spaces, list_form}
use Rattle.acap_grammar.proofs.HeardStrings.{hears-append}
use Rattle.acap_grammar.proofs.HeardStrings.{all_digits, some_digits}
use Rattle.acap_grammar.proofs.HeardStrings.{string_read}

-- ---- where a datum has ended

-- the client with these data more, the last of which has ended
abbrev pub holding : Client → List Datum → Client
holding client ds = record client { inner = client.inner ++ ds; place = Ended }

-- what ends a word is heard alike by both
pub record Settles (client other : Client) : Type 0 where
  pub alike : (c : ℕ) → is_word c ≡ false → heard client c ≡ heard other c

pub settled : (client other : Client) → client ≡ other → Settles client other
settled client other e = record { alike = λ c p. ap (λ s. heard s c) e }

-- these octets are read as these data
pub record Reads (form : List ℕ) (ds : List Datum) : Type 0 where
  pub read : length form < 2 ^ 64 → (client : Client) → Settles (hears (turned client Fresh) form) (holding client ds)

pub fits_first : (a b : List ℕ) → length (a ++ b) < 2 ^ 64 → length a < 2 ^ 64
fits_first a b h = omega (arith, length-append a b)

pub fits_last : (a b : List ℕ) → length (a ++ b) < 2 ^ 64 → length b < 2 ^ 64
fits_last a b h = omega (arith, length-append a b)

-- ---- strings and words

-- a string has no more octets than its printed form, or few
short_by : (text : List ℕ) (b : Bool) → may_quote text ≡ b → length (printed_form text) < 2 ^ 64 → length text < 2 ^ 64
unfolding printed_form may_quote literal
short_by text true e small =
    let few = leb-true _ _ (and_parts (leb (length (escaped_form text)) 1024) (is_utf8 text && list_all is_printable text) e).0 in
    omega (arith, few, length-escaped text)
short_by text false e small =
    let form : printed_form text ≡ literal text = rw e refl in
    fits_last (123 ∷ (decimal (length text) ++ 125 ∷ 13 ∷ 10 ∷ [])) text (subst (λ (w : List ℕ). length w < 2 ^ 64) form small)

pub string_reads : (text : List ℕ) → Reads (printed_form text) (Text text ∷ [])
string_reads text = record { read = λ small client. settled _ _ (string_read client text (short_by text (may_quote text) refl small)) }

words_on : (client : Client) (so_far word : List ℕ) → list_all is_word word ≡ true → hears (turned client (InWord so_far)) word ≡ turned client (InWord (so_far ++ word))
words_on client so_far [] p = ap (λ (w : List ℕ). turned client (InWord w)) (sym (append-nil so_far))
words_on client so_far (c ∷ word) p =
    let parts = and_parts (is_word c) (list_all is_word word) p in
    let one : heard (turned client (InWord so_far)) c ≡ turned client (InWord (so_far ++ c ∷ [])) = rw parts.0 refl in
    ap (λ s. hears s word) one
    ∙ words_on client (so_far ++ c ∷ []) word parts.1
    ∙ ap (λ (w : List ℕ). turned client (InWord w)) (append_assoc so_far (c ∷ []) word)

pub word_settles : (client : Client) (word : List ℕ) → Settles (turned client (InWord word)) (holding client (Word word ∷ []))
word_settles client word = record { alike = λ c p. rw p refl }

pub word_read : (client : Client) (word : List ℕ) → list_all is_word word ≡ true → 1 ≤ length word → hears (turned client Fresh) word ≡ turned client (InWord word)
word_read client [] p some = absurd (omega arith)
word_read client (c ∷ word) p some =
    let parts = and_parts (is_word c) (list_all is_word word) p in
    let one : heard (turned client Fresh) c ≡ turned client (InWord (c ∷ [])) = rw parts.0 refl in
    ap (λ s. hears s word) one ∙ words_on client (c ∷ []) word parts.1

-- a line begins with a word
pub first_word : (client : Client) (word : List ℕ) → list_all is_word word ≡ true → 1 ≤ length word → hears (turned client Between) word ≡ turned client (InWord word)
first_word client [] p some = absurd (omega arith)
first_word client (c ∷ word) p some =
    let parts = and_parts (is_word c) (list_all is_word word) p in
    let one : heard (turned client Between) c ≡ turned client (InWord (c ∷ [])) = rw parts.0 refl in
    ap (λ s. hears s word) one ∙ words_on client (c ∷ []) word parts.1

pub word_reads : (word : List ℕ) → list_all is_word word ≡ true → 1 ≤ length word → Reads word (Word word ∷ [])
word_reads word p some = record { read = λ small client. subst (λ s. Settles s (holding client (Word word ∷ []))) (sym (word_read client word p some)) (word_settles client word) }

digit_is_word : (c : ℕ) → is_digit c ≡ true → is_word c ≡ true
unfolding is_digit is_word
digit_is_word c e =
    let parts = and_parts (leb 48 c) (leb c 57) e in
    let low : leb 42 c ≡ true = le-leb 42 c (omega (arith, leb-true 48 c parts.0)) in
    let high : leb c 91 ≡ true = le-leb c 91 (omega (arith, leb-true c 57 parts.1)) in
    or_left _ _ (or_left _ _ (or_right _ _ (and_from _ _ low high)))

digits_are_words : (digits : List ℕ) → list_all is_digit digits ≡ true → list_all is_word digits ≡ true
digits_are_words [] p = refl
digits_are_words (c ∷ digits) p =
    let parts = and_parts (is_digit c) (list_all is_digit digits) p in
    and_from _ _ (digit_is_word c parts.0) (digits_are_words digits parts.1)

pub number_reads : (n : ℕ) → n < 2 ^ 64 → Reads (decimal n) (Word (decimal n) ∷ [])
number_reads n small = word_reads (decimal n) (digits_are_words _ (all_digits n small)) (leb-true _ _ (some_digits n small))

-- ---- one after the other

pub then_space : (client : Client) (ds : List Datum) (s : Client) → Settles s (holding client ds) → heard s 32 ≡ turned (holding client ds) Fresh
unfolding is_word
then_space client ds s h = h.alike 32 refl

pub together : (client : Client) (ds more : List Datum) → holding (holding client ds) more ≡ holding client (ds ++ more)
together client ds more = ap (λ (inner : List Datum). let c : Client = record client { inner = inner; place = Ended } in c) (append_assoc client.inner ds more)

pub reads_next : (client : Client) (ds : List Datum) (s : Client) (form : List ℕ) (more : List Datum) → Settles s (holding client ds) → Reads form more → length form < 2 ^ 64
    → Settles (hears s (32 ∷ form)) (holding client (ds ++ more))
reads_next client ds s form more h r small =
    subst (λ t. Settles (hears t form) (holding client (ds ++ more))) (sym (then_space client ds s h))
    (subst (Settles (hears (turned (holding client ds) Fresh) form)) (together client ds more) (r.read small (holding client ds)))

module _ {A : Type 0} (form : A → List ℕ) (datum : A → Datum) (each : (x : A) → Reads (form x) (datum x ∷ [])) where
  pub reads_spaced : (xs : List A) (client : Client) (ds : List Datum) (s : Client) → Settles s (holding client ds) → length (behind_spaces form xs) < 2 ^ 64
      → Settles (hears s (behind_spaces form xs)) (holding client (ds ++ map datum xs))
  reads_spaced [] client ds s h small = subst (λ (all : List Datum). Settles s (holding client all)) (sym (append-nil ds)) h
  reads_spaced (x ∷ xs) client ds s h small =
      let first = 32 ∷ form x in
      let back = behind_spaces form xs in
      let one = reads_next client ds s (form x) (datum x ∷ []) h (each x) (omega (arith, fits_first first back small)) in
      let later = reads_spaced xs client (ds ++ datum x ∷ []) (hears s first) one (fits_last first back small) in
      subst (λ t. Settles t (holding client (ds ++ datum x ∷ map datum xs))) (sym (hears-append s first back))
      (subst (λ (all : List Datum). Settles (hears (hears s first) back) (holding client all)) (append_assoc ds (datum x ∷ []) (map datum xs)) later)

-- ---- in a parenthesis

-- what is in it, from the inside
pub reads_group : (form : List ℕ) (ds : List Datum) → Reads form ds → length form < 2 ^ 64 → (client : Client) → hears (turned client Fresh) (40 ∷ (form ++ 41 ∷ [])) ≡ holding client (group ds ∷ [])
unfolding is_word
reads_group form ds r small client =
    let inside : Client = record client { outer = client.inner ∷ client.outer; inner = []; place = Fresh } in
    hears-append inside form (41 ∷ []) ∙ (r.read small inside).alike 41 refl

module _ {A : Type 0} (form : A → List ℕ) (datum : A → Datum) (each : (x : A) → Reads (form x) (datum x ∷ [])) where
  reads_between : (x : A) (xs : List A) → Reads (between_spaces form (x ∷ xs)) (datum x ∷ map datum xs)
  reads_between x xs = record {
    read = λ small client.
        let first = form x in
        let back = behind_spaces form xs in
        subst (λ t. Settles t (holding client (datum x ∷ map datum xs))) (sym (hears-append (turned client Fresh) first back))
        (reads_spaced form datum each xs client (datum x ∷ []) (hears (turned client Fresh) first) ((each x).read (fits_first first back small) client) (fits_last first back small));
  }

  pub list_read : (xs : List A) → length (list_form form xs) < 2 ^ 64 → (client : Client) → hears (turned client Fresh) (list_form form xs) ≡ holding client (group (map datum xs) ∷ [])
  unfolding list_form is_word
  list_read [] small client = refl
  list_read (x ∷ xs) small client =
      let inner = between_spaces form (x ∷ xs) in
      reads_group inner (datum x ∷ map datum xs) (reads_between x xs) (omega (arith, fits_first inner (41 ∷ []) (omega arith))) client

  pub list_reads : (xs : List A) → Reads (list_form form xs) (group (map datum xs) ∷ [])
  list_reads xs = record { read = λ small client. settled _ _ (list_read xs small client) }
