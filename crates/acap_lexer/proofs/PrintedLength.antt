-- How long the escaped form is, and whether a text is UTF-8.
use Rattle.std.proofs.Common.{◌≡◌, ℕ, ◌+◌, Bool, true, false, cond, List, [], ◌∷◌, ◌++◌, length, refl, sym, arith, suc, ◌≤◌, leb}
use Rattle.std.specs.Prelude.{count_by}
use Rattle.std.specs.Str.{is_utf8, IsUtf8}
use Rattle.std.proofs.lemmas.Str.{IsUtf8-from_is_utf8}
use Rattle.std.proofs.lemmas.List.Recursion.{is_count_by}
use Rattle.std.proofs.lemmas.Bool.{le-leb}
use Rattle.std.proofs.lemmas.List.Sums.{count_by-le-length}
use Rattle.acap_lexer.specs.Octets.{is_escaped}
use Rattle.acap_lexer.specs.Printing.{escaped_form}

abbrev more_of : List ℕ → ℕ
more_of [] = 0
more_of (c ∷ text) = cond (is_escaped c) (1 + more_of text) (more_of text)

longer : (b : Bool) (c : ℕ) (rest : List ℕ) (n more : ℕ) → length rest ≡ n + more → length (cond b (92 ∷ c ∷ []) (c ∷ []) ++ rest) ≡ suc n + cond b (1 + more) more
longer true c rest n more e = omega (arith, e)
longer false c rest n more e = omega (arith, e)

length_more : (text : List ℕ) → length (escaped_form text) ≡ length text + more_of text
length_more [] = refl
length_more (c ∷ text) = longer (is_escaped c) c (escaped_form text) (length text) (more_of text) (length_more text)

pub length-escaped : (text : List ℕ) → length (escaped_form text) ≡ length text + count_by is_escaped text
length-escaped text = rw (← is_count_by more_of is_escaped refl (λ c rest. refl) text) (length_more text)

pub is_utf8_not : (text : List ℕ) → ¬ (IsUtf8 text) → false ≡ is_utf8 text
is_utf8_not text wrong = by_test (is_utf8 text) (λ e. wrong (IsUtf8-from_is_utf8 text e))
  where
    by_test : (b : Bool) → (b ≡ true → ⊥) → false ≡ b
    by_test true h = absurd (h refl)
    by_test false h = refl

pub ruleset short_rules = (length-escaped)

pub short_half : (text : List ℕ) → length text ≤ 512 → true ≡ leb (length (escaped_form text)) 1024
short_half text short = sym (le-leb _ _ (omega (arith, short, length-escaped text, count_by-le-length is_escaped text)))
