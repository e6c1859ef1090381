-- A line of one string, with no tag [RFC 2244 section 6.3.1].
use Rattle.std.specs.Prelude.{ℕ, List, [], ◌∷◌, false}
use Rattle.acap_lexer.specs.Spelling.{text_of}
use Rattle.acap_grammar.specs.Texts.{written_string}

abbrev pub answer_text : List ℕ → List ℕ
answer_text answer = text_of (record { spaced = false; written = written_string answer } ∷ [])
