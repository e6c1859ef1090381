-- The data that tokens stand for [RFC 2244 section 2.2].
use Rattle.std.specs.Prelude.{List, [], ◌∷◌}
use Rattle.acap_grammar.specs.Lines.{Datum, Word, Text, group}
use Rattle.acap_client.specs.declared.draft.Token.{Token}
use Rattle.acap_client.specs.declared.draft.Token.TheVariants as token

-- What stands from a token on: the data up to the end of the parenthesis that the token stands in, and those
-- that follow each parenthesis around it, the innermost first.
pub record Rest : Type 0 where
  pub inner : List Datum
  pub outer : List (List Datum)

abbrev pub nothing : Rest
nothing = record { inner = []; outer = [] }

-- a parenthesis with these data, before what follows it
abbrev pub grouped : List Datum → List (List Datum) → Rest
grouped inner [] = record { inner = group inner ∷ []; outer = [] }
grouped inner (others ∷ outer) = record { inner = group inner ∷ others; outer = outer }

-- a token before what follows it
abbrev pub before : Token → Rest → Rest
before (token.Word octets) rest = record { inner = Word octets ∷ rest.inner; outer = rest.outer }
before (token.Text octets) rest = record { inner = Text octets ∷ rest.inner; outer = rest.outer }
before token.Open rest = grouped rest.inner rest.outer
before token.Close rest = record { inner = []; outer = rest.inner ∷ rest.outer }

abbrev pub before_all : List Token → Rest → Rest
before_all [] rest = rest
before_all (first ∷ others) rest = before first (before_all others rest)

-- The data that tokens stand for.
abbrev pub data_of : List Token → List Datum
data_of tokens = (before_all tokens nothing).inner
