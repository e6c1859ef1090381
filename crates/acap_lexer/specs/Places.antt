-- Tokens as places in one text of values.
use Rattle.std.specs.Prelude.{◌≡◌, ℕ, ◌+◌, ◌-◌, ◌≤◌, List, ◌++◌, length, take, drop, map}
use Rattle.std.specs.List.{AllByRecursion}
use Rattle.acap_lexer.specs.declared.kind.TokenPlace.{TokenPlace}
use Rattle.acap_lexer.specs.Token.{Token}

abbrev pub token_in : List ℕ → TokenPlace → Token
token_in text m =
    record {
      kind = m.kind;
      value = take (m.value_end - m.value_start) (drop m.value_start text);
      start = m.start;
      end = m.end;
    }

abbrev pub tokens_in : List ℕ → List TokenPlace → List Token
tokens_in text places = map (token_in text) places

pub record IsWithin (text : List ℕ) (m : TokenPlace) : Type 0 where
  pub start : m.value_start ≤ m.value_end
  pub end : m.value_end ≤ length text

abbrev pub AreWithin : List ℕ → List TokenPlace → Type 0
AreWithin text places = AllByRecursion (IsWithin text) places

-- the text lies in the whole, up to the index after it there
pub record LiesIn (whole : List ℕ) (behind : ℕ) (text : List ℕ) : Type 0 where
  pub front : List ℕ
  pub after : List ℕ
  pub whole_is : whole ≡ front ++ (text ++ after)
  pub behind_is : behind ≡ length front + length text

-- a text is a prefix and what is left
pub record Splits (text front left : List ℕ) : Type 0 where
  pub front_is : front ≡ take (length front) text
  pub left_is : left ≡ drop (length front) text
  pub within : length front ≤ length text
