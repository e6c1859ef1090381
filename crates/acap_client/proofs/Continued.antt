-- Lines that begin with two words.
use Rattle.std.proofs.Common.{◌≡◌, ℕ, List, [], ◌∷◌, Some, ap}
use Rattle.acap_grammar.specs.Lines.{Datum, Word, Text, Empty, Pair, worded}
use Rattle.acap_client.specs.Arguments.{word_at}
use Rattle.acap_client.specs.Saying.{twice}

pub two_words : (first word : List ℕ) (ds others : List Datum) → Some (word, others) ≡ word_at ds → twice first word others ≡ worded first ds
two_words first word [] others e = absurd cc
two_words first word (Word w ∷ ds) others e =
    let same : ◌≡◌ {A = List ℕ × List Datum} (word, others) (w, ds) = cc in
    ap (λ x. twice first x.0 x.1) same
two_words first word (Text t ∷ ds) others e = absurd cc
two_words first word (Empty ∷ ds) others e = absurd cc
two_words first word (Pair a b ∷ ds) others e = absurd cc
