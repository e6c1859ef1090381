-- Lists of strings.
use Rattle.std.proofs.Common.{◌≡◌, ℕ, ◌<◌, Bool, false, List, [], ◌∷◌, length, Option, Some, None, refl, sym, ap, ◌∙◌, arith}
use Rattle.std.specs.Prelude.{is_some, option_and_then}
use Rattle.acap_grammar.specs.Lines.{Datum, Word, Text, Empty, Pair, more_text, texts_of}
use Rattle.acap_client.specs.Arguments.{are_none, text_at}

pub text_first : (ds : List Datum) (text : List ℕ) (others : List Datum) → Some (text, others) ≡ text_at ds → ds ≡ Text text ∷ others
text_first [] text others e = absurd cc
text_first (Word w ∷ ds) text others e = absurd cc
text_first (Text t ∷ ds) text others e =
    let same : ◌≡◌ {A = List ℕ × List Datum} (t, ds) (text, others) = cc in
    ap (λ x. Text x.0 ∷ x.1) same
text_first (Empty ∷ ds) text others e = absurd cc
text_first (Pair a b ∷ ds) text others e = absurd cc

one_more : (text : List ℕ) (o : Option (List (List ℕ))) → is_some o ≡ is_some (option_and_then (more_text (Text text)) o)
one_more text None = refl
one_more text (Some texts) = refl

pub goes_on : (all : Bool) (ds others : List Datum) (text : List ℕ) → Some (text, others) ≡ text_at ds → is_some (texts_of ds) ≡ all → is_some (texts_of others) ≡ all
goes_on all ds others text e so_far = one_more text (texts_of others) ∙ ap (λ xs. is_some (texts_of xs)) (sym (text_first ds text others e)) ∙ so_far

pub shorter : (ds others : List Datum) (text : List ℕ) → Some (text, others) ≡ text_at ds → length others < length ds
shorter ds others text e = omega (arith, ap length (text_first ds text others e))

other : (d : Datum) (o : Option (List (List ℕ))) → ((texts : List (List ℕ)) → more_text d texts ≡ None) → false ≡ is_some (option_and_then (more_text d) o)
other d None none = refl
other d (Some texts) none = rw (none texts) refl

pub ends : (ds : List Datum) → None ≡ text_at ds → are_none ds ≡ is_some (texts_of ds)
ends [] e = refl
ends (Word w ∷ ds) e = other (Word w) (texts_of ds) (λ texts. refl)
ends (Text t ∷ ds) e = absurd cc
ends (Empty ∷ ds) e = other Empty (texts_of ds) (λ texts. refl)
ends (Pair a b ∷ ds) e = other (Pair a b) (texts_of ds) (λ texts. refl)
