-- The examples of lines that are heard, by computation; that of a long string by its length.
use Rattle.std.proofs.Common.{◌≡◌, ℕ, false, List, [], ◌∷◌, ◌++◌, length, Some, refl, ap, ◌∙◌, append-nil, arith, codes, leb, decimal}
use Rattle.std.specs.Str.{is_utf8, chars}
use Rattle.std.specs.Char.{encode_utf8}
use Rattle.std.specs.Fmt.{digits}
use Rattle.std.proofs.lemmas.Bool.{lt-leb}
use Rattle.acap_lexer.specs.Octets.{is_word, is_digit, is_quotable, is_escaped}
use Rattle.acap_lexer.specs.Printing.{printed_form, quoted_form, may_quote, literal, escaped_form, is_printable}
use Rattle.acap_lexer.proofs.PrintedLength.{length-escaped}
use Rattle.acap_grammar.specs.Lines.{Entry, number_of}
use Rattle.acap_grammar.specs.Listening.{Client, taking, hears}
use Rattle.acap_grammar.specs.Readable.{after}
use Rattle.acap_grammar.specs.ReadingExamples.{ReadingExamples, lines_in, long_row}
use Rattle.acap_grammar.specs.Replies.{crlf, row_form, item_form, cell_form, list_form}
use Rattle.acap_grammar.specs.SaidLines.{row_data}
use Rattle.acap_grammar.proofs.HeardStrings.{hears-append, taking_on}

-- ---- a long string

long_literal : (text : List ℕ) → length text ≡ 300000 → printed_form text ≡ literal text
unfolding printed_form may_quote
long_literal text e =
    let long : leb (length (escaped_form text)) 1024 ≡ false = lt-leb _ _ (omega (arith, length-escaped text, e)) in
    rw long refl

a_form : printed_form (codes "a") ≡ codes "\"a\""
unfolding printed_form quoted_form may_quote is_escaped is_printable is_utf8 chars encode_utf8
a_form = refl

long_form : (text : List ℕ) → length text ≡ 300000 → literal text ≡ codes "{300000}" ++ crlf ++ text
unfolding literal digits
long_form text e =
    let written : decimal (length text) ≡ codes "300000" = ap decimal e in
    ap (λ (ds : List ℕ). 123 ∷ ds ++ 125 ∷ 13 ∷ 10 ∷ [] ++ text) written

long_printed : (text : List ℕ) → length text ≡ 300000 → row_form (codes "A1") (long_row text) ≡ codes "A1 ENTRY \"a\" {300000}" ++ crlf ++ text ++ crlf
unfolding row_form item_form cell_form
long_printed text e =
    let string = long_literal text e ∙ long_form text e in
    ap (λ (name : List ℕ). codes "A1" ++ codes " ENTRY " ++ name ++ (codes " " ++ printed_form text ++ []) ++ crlf) a_form
    ∙ ap (λ (value : List ℕ). codes "A1 ENTRY \"a\"" ++ (codes " " ++ value ++ []) ++ crlf) string
    ∙ ap (λ (value : List ℕ). codes "A1 ENTRY \"a\" {300000}" ++ crlf ++ value ++ crlf) (append-nil text)

long_heard : (text : List ℕ) → length text ≡ 300000 → lines_in (codes "A1 ENTRY \"a\" {300000}" ++ crlf ++ text ++ crlf) ≡ Some (Entry (Some (codes "A1")) (codes "a") (row_data (long_row text))) ∷ []
unfolding is_word is_digit is_quotable number_of
long_heard text e =
    let head = codes "A1 ENTRY \"a\" {300000}" ++ crlf in
    let begun : Client = hears (after []) (codes "A1 ENTRY \"a\" ") in
    let opens : hears (after []) head ≡ taking (length text) [] begun = rw e refl in
    ap (λ (c : Client). c.lines)
    (hears-append (after []) (head ++ text) crlf
    ∙ ap (λ s. hears s crlf) (hears-append (after []) head text ∙ ap (λ s. hears s text) opens ∙ taking_on begun [] text))

pub reading_examples : ReadingExamples
unfolding is_word is_digit is_quotable is_escaped number_of item_form cell_form list_form
reading_examples = record {
  escapes = refl;
  literal = refl;
  within = refl;
  empty_literal = refl;
  code = refl;
  positions = refl;
  one_position = refl;
  name_as_a_word = refl;
  lists = refl;
  printed_alike = refl;
  alike = refl;
  cut = refl;
  cut_place = refl;
  bare_quote = refl;
  short_literal = refl;
  space_before = refl;
  printed = long_printed;
  long = long_heard;
}
