-- A client that hears the octets of a server, one after the other, and reads lines from them
-- [RFC 2244 sections 2.2 and 2.6].
use Rattle.std.specs.Prelude.{ℕ, zero, suc, List, [], ◌∷◌, ◌++◌, ◌==◌, if◌then◌else◌, Option, Some, None}
use Rattle.acap_lexer.specs.Octets.{is_word, is_digit, is_quotable, is_escaped, line_feed, carriage_return}
use Rattle.acap_lexer.specs.Octets.{space, quote, parenthesis, closing_parenthesis, backslash, brace}
use Rattle.acap_lexer.specs.Octets.{closing_brace}
use Rattle.acap_grammar.specs.Lines.{Datum, Word, Text, group, Line, line_of, number_of}

-- Where the last octet left the client.
pub data Place : Type 0 where
  -- between two lines
  Between : Place
  -- where a datum may begin, and where one has ended
  Fresh : Place
  Ended : Place
  -- in a word, between quotes, and between quotes after a backslash, with the octets so far
  InWord : List ℕ → Place
  InQuotes : List ℕ → Place
  Escaping : List ℕ → Place
  -- in the mark of a literal: after `{` and these digits;
  -- after `}` and after CR, with the number that they are
  Marking : List ℕ → Place
  Marked : ℕ → Place
  Opening : ℕ → Place
  -- in a literal: how many octets are to come after the next one, and those that have come
  Taking : ℕ → List ℕ → Place
  -- after the CR that ends a line
  Returned : Place
  -- what came is no line of a server
  Lost : Place

-- What the client knows: the lines so far, each as what it says, or as None
-- if it says nothing. And of the line that has begun: what stands before each
-- parenthesis that is open, the innermost first, and what stands after it.
pub record Client : Type 0 where
  pub lines : List (Option Line)
  pub outer : List (List Datum)
  pub inner : List Datum
  pub place : Place

abbrev pub turned : Client → Place → Client
turned client place = record client { place = place }

abbrev pub lost : Client → Client
lost client = turned client Lost

-- a datum has come
abbrev pub added : Client → Datum → Client
added client datum = record client { inner = client.inner ++ datum ∷ []; place = Ended }

-- a parenthesis opens, and closes
abbrev pub opened : Client → Client
opened client = record client { outer = client.inner ∷ client.outer; inner = []; place = Fresh }

abbrev pub closed_in : List (List Datum) → Client → Client
closed_in [] client = lost client
closed_in (before ∷ outer) client =
    record client { outer = outer; inner = before ++ group client.inner ∷ []; place = Ended }

abbrev pub closed : Client → Client
closed client = closed_in client.outer client

-- with nothing in it, a parenthesis may close where a datum may begin
abbrev pub closed_empty : List Datum → Client → Client
closed_empty [] client = closed client
closed_empty (datum ∷ inner) client = lost client

-- the line ends: no parenthesis may be open
abbrev pub said_in : List (List Datum) → Client → Client
said_in [] client =
    record { lines = client.lines ++ line_of client.inner ∷ []; outer = []; inner = []; place = Between }
said_in (before ∷ outer) client = lost client

abbrev pub said : Client → Client
said client = said_in client.outer client

-- `left` octets of a literal are still to come
abbrev pub taking : ℕ → List ℕ → Client → Client
taking zero text client = added client (Text text)
taking (suc left) text client = turned client (Taking left text)

abbrev pub marked : Option ℕ → Client → Client
marked None client = lost client
marked (Some count) client = turned client (Marked count)

-- an octet where a datum may begin
abbrev pub begun : Client → ℕ → Client
begun client c =
    if is_word c then turned client (InWord (c ∷ []))
    else (if c == quote then turned client (InQuotes [])
    else (if c == brace then turned client (Marking [])
    else (if c == parenthesis then opened client
    else (if c == closing_parenthesis then closed_empty client.inner client
    else lost client))))

-- an octet where one has ended
abbrev pub ended : Client → ℕ → Client
ended client c =
    if c == space then turned client Fresh
    else (if c == closing_parenthesis then closed client
    else (if c == carriage_return then turned client Returned
    else lost client))

-- What the client knows when it has heard one octet more.
abbrev pub heard_at : Place → Client → ℕ → Client
heard_at Between client c = if is_word c then turned client (InWord (c ∷ [])) else lost client
heard_at Fresh client c = begun client c
heard_at Ended client c = ended client c
heard_at (InWord word) client c =
    if is_word c then turned client (InWord (word ++ c ∷ [])) else ended (added client (Word word)) c
heard_at (InQuotes text) client c =
    if c == quote then added client (Text text)
    else (if c == backslash then turned client (Escaping text)
    else (if is_quotable c then turned client (InQuotes (text ++ c ∷ []))
    else lost client))
heard_at (Escaping text) client c =
    if is_escaped c then turned client (InQuotes (text ++ c ∷ [])) else lost client
heard_at (Marking digits) client c =
    if c == closing_brace then marked (number_of digits) client
    else (if is_digit c then turned client (Marking (digits ++ c ∷ []))
    else lost client)
heard_at (Marked count) client c = if c == carriage_return then turned client (Opening count) else lost client
heard_at (Opening count) client c = if c == line_feed then taking count [] client else lost client
heard_at (Taking left text) client c = taking left (text ++ c ∷ []) client
heard_at Returned client c = if c == line_feed then said client else lost client
heard_at Lost client c = lost client

abbrev pub heard : Client → ℕ → Client
heard client c = heard_at client.place client c

-- one octet after the other
abbrev pub hears : Client → List ℕ → Client
hears client [] = client
hears client (c ∷ rest) = hears (heard client c) rest
