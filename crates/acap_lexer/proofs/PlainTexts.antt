-- A text of plain octets is printed as it is, between quotes.
use Rattle.std.proofs.Common.{◌≡◌, ℕ, zero, suc, slice_index, ◌<◌, ◌≤◌, Bool, true, false, List, [], ◌∷◌, ◌++◌, length, refl, ap, ◌∙◌, arith}
use Rattle.std.specs.Prelude.{not, ◌||◌, nat_le, nat_lt}
use Rattle.std.specs.List.{list_all}
use Rattle.std.specs.Str.{is_utf8}
use Rattle.std.proofs.lemmas.Bool.{and_parts, le-leb, ltb-true}
use Rattle.std.proofs.lemmas.Str.{is_utf8-from_IsUtf8, IsUtf8-from_ascii}
use Rattle.acap_lexer.specs.Octets.{is_escaped, is_plain, is_quotable, quote}
use Rattle.acap_lexer.specs.Printing.{escape, escaped_form, is_printable, may_quote, quoted_form, printed_form}

parts_of : (x d e : Bool) → not (x || d || e) ≡ true → (not x ≡ true) × ((d || e) ≡ false)
parts_of true d e h = cc
parts_of false true e h = cc
parts_of false false true h = cc
parts_of false false false h = (refl, refl)

record IsPlain (c : ℕ) : Type 0 where
  bare : is_escaped c ≡ false
  printable : is_printable c ≡ true
  ascii : c < 128

plain_octet : (c : ℕ) → is_plain c ≡ true → IsPlain c
unfolding is_plain is_quotable is_escaped is_printable
plain_octet c h =
    let both = and_parts (is_quotable c) (nat_lt c 128) h in
    let parts = parts_of _ _ _ both.0 in
    record { bare = parts.1; printable = parts.0; ascii = ltb-true _ _ both.1 }

record IsPlainText (text : List ℕ) : Type 0 where
  same : escaped_form text ≡ text
  printable : list_all is_printable text ≡ true
  ascii : (i : ℕ) → slice_index text i < 128

ascii_none : (i : ℕ) → slice_index [] i < 128
ascii_none zero = omega arith
ascii_none (suc i) = omega arith

ascii_more : (c : ℕ) (text : List ℕ) → c < 128 → ((i : ℕ) → slice_index text i < 128) → (i : ℕ) → slice_index (c ∷ text) i < 128
ascii_more c text h others zero = h
ascii_more c text h others (suc i) = others i

plain_text : (text : List ℕ) → list_all is_plain text ≡ true → IsPlainText text
plain_text [] h = record { same = refl; printable = refl; ascii = ascii_none }
plain_text (c ∷ text) h =
    let both = and_parts (is_plain c) (list_all is_plain text) h in
    let octet : IsPlain c = plain_octet c both.0 in
    let others : IsPlainText text = plain_text text both.1 in
    let form : escape c ≡ c ∷ [] = rw octet.bare refl in
    record {
      same = ap (λ (front : List ℕ). front ++ escaped_form text) form ∙ ap (λ (rest : List ℕ). c ∷ rest) others.same;
      printable = rw (octet.printable, others.printable) refl;
      ascii = ascii_more c text octet.ascii others.ascii;
    }

pub plain_form : (text : List ℕ) → list_all is_plain text ≡ true → length text ≤ 64 → printed_form text ≡ quote ∷ [] ++ text ++ quote ∷ []
unfolding printed_form may_quote quoted_form
plain_form text plain short =
    let is : IsPlainText text = plain_text text plain in
    let fits : nat_le (length (escaped_form text)) 1024 ≡ true = le-leb _ _ (rw is.same (omega arith)) in
    let utf8 : is_utf8 text ≡ true = is_utf8-from_IsUtf8 text (IsUtf8-from_ascii text is.ascii) in
    rw (fits, utf8, is.printable, is.same) refl
