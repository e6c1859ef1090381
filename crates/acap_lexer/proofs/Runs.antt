-- The escaped form, run by run.
use Rattle.std.proofs.Common.{◌≡◌, ℕ, zero, suc, ◌<◌, true, false, List, [], ◌∷◌, ◌++◌, length, take, drop, Some, None, refl, sym, ap, ◌∙◌, arith, slice_index, length-drop, append_assoc}
use Rattle.std.specs.Prelude.{not}
use Rattle.std.specs.List.{list_all}
use Rattle.std.proofs.lemmas.List.Folds.{list_all_at}
use Rattle.std.proofs.lemmas.Bool.{false_from_ne_true}
use Rattle.memchr.specs.Find.{IsFirstByte, is_byte2, is_byte3}
use Rattle.acap_lexer.specs.Escapes.{IsSplitAtEscape}
use Rattle.acap_lexer.specs.Octets.{is_escaped}
use Rattle.acap_lexer.specs.Printing.{escape, escaped_form, is_printable}

none_before : List ℕ → ℕ → Type 0
none_before text n = (k : ℕ) → k < n → is_escaped (slice_index text k) ≡ true → ⊥

-- octets that want no backslash stay as they are
run_of : (text : List ℕ) (n : ℕ) → none_before text n → escaped_form text ≡ take n text ++ escaped_form (drop n text)
unfolding none_before
run_of [] zero h = refl
run_of [] (suc n) h = refl
run_of (c ∷ text) zero h = refl
run_of (c ∷ text) (suc n) h =
    let plain : is_escaped c ≡ false = false_from_ne_true (is_escaped c) (h 0 (omega arith)) in
    let form : escape c ≡ c ∷ [] = rw plain refl in
    let later : escaped_form text ≡ take n text ++ escaped_form (drop n text) = run_of text n (λ k lt e. h (suc k) (omega arith) e) in
    ap (λ (front : List ℕ). front ++ escaped_form text) form ∙ ap (λ (rest : List ℕ). c ∷ rest) later

escaped_first : (c : ℕ) (behind : List ℕ) → is_escaped c ≡ true → escaped_form (c ∷ behind) ≡ 92 ∷ c ∷ escaped_form behind
escaped_first c behind e = let form : escape c ≡ 92 ∷ c ∷ [] = rw e refl in ap (λ (front : List ℕ). front ++ escaped_form behind) form

all_plain : (text : List ℕ) → none_before text (length text) → escaped_form text ≡ text
unfolding none_before
all_plain [] h = refl
all_plain (c ∷ text) h =
    let plain : is_escaped c ≡ false = false_from_ne_true (is_escaped c) (h 0 (omega arith)) in
    let form : escape c ≡ c ∷ [] = rw plain refl in
    ap (λ (front : List ℕ). front ++ escaped_form text) form ∙ ap (λ (rest : List ℕ). c ∷ rest) (all_plain text (λ k lt e. h (suc k) (omega arith) e))

-- no octet wants a backslash
pub no_escape : (text : List ℕ) → IsFirstByte (is_byte2 34 92) text None → escaped_form text ≡ text
unfolding is_escaped none_before
no_escape text f = all_plain text (λ k lt e. f k (omega arith) lt e)

first_at : (text behind : List ℕ) (c n : ℕ) → drop n text ≡ c ∷ behind → slice_index text n ≡ c
first_at [] behind c zero e = absurd cc
first_at [] behind c (suc n) e = absurd cc
first_at (d ∷ text) behind c zero e = let p : d ≡ c = cc in p
first_at (d ∷ text) behind c (suc n) e = first_at text behind c n e

pub split_escape : (text run behind : List ℕ) (c n : ℕ) → IsFirstByte (is_byte2 34 92) text (Some n) → run ≡ take n text → drop n text ≡ c ∷ behind → IsSplitAtEscape text run c behind
unfolding is_escaped none_before
split_escape text run behind c n f front back =
    let is : is_escaped c ≡ true = ap is_escaped (sym (first_at text behind c n back)) ∙ f.1 in
    let form : escaped_form text ≡ take n text ++ escaped_form (drop n text) = run_of text n (λ k lt e. f.0.before k (omega arith) lt e) in
    record {
      form = form ∙ ap (λ (rest : List ℕ). take n text ++ escaped_form rest) back ∙ ap (λ (rest : List ℕ). take n text ++ rest) (escaped_first c behind is) ∙ ap (λ (xs : List ℕ). xs ++ 92 ∷ c ∷ escaped_form behind) (sym front);
      shorter = omega (arith, ap length back, length-drop n text, f.0.high);
    }

-- what is printed so far, and what is left
pub goes_on : (old out left run behind : List ℕ) (text : List ℕ) (c : ℕ) → IsSplitAtEscape left run c behind → out ++ escaped_form left ≡ old ++ escaped_form text
    → (((out ++ run) ++ (92 ∷ [])) ++ (c ∷ [])) ++ escaped_form behind ≡ old ++ escaped_form text
goes_on old out left run behind text c s so_far =
    append_assoc ((out ++ run) ++ (92 ∷ [])) (c ∷ []) (escaped_form behind) ∙ append_assoc (out ++ run) (92 ∷ []) (c ∷ escaped_form behind) ∙ append_assoc out run (92 ∷ c ∷ escaped_form behind)
    ∙ ap (λ (xs : List ℕ). out ++ xs) (sym s.form) ∙ so_far

-- ---- what may stand between quotes

printable_if : (c : ℕ) → (is_byte3 0 10 13 c ≡ true → ⊥) → is_printable c ≡ true
unfolding is_printable
printable_if c h = rw (false_from_ne_true (is_byte3 0 10 13 c) h) refl

all_if : (text : List ℕ) → ((k : ℕ) → k < length text → is_byte3 0 10 13 (slice_index text k) ≡ true → ⊥) → list_all is_printable text ≡ true
all_if [] h = refl
all_if (c ∷ text) h = rw (printable_if c (h 0 (omega arith)), all_if text (λ k lt e. h (suc k) (omega arith) e)) refl

pub none_forbidden : (text : List ℕ) → IsFirstByte (is_byte3 0 10 13) text None → true ≡ list_all is_printable text
none_forbidden text f = sym (all_if text (λ k lt e. f k (omega arith) lt e))

pub one_forbidden : (text : List ℕ) (n : ℕ) → IsFirstByte (is_byte3 0 10 13) text (Some n) → false ≡ list_all is_printable text
unfolding is_printable
one_forbidden text n f =
    let bad : is_printable (slice_index text n) ≡ false = ap not f.1 in
    sym (list_all_at is_printable text n 0 f.0.high bad)
