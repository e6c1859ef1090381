-- What the reader of a line has of it, and that it is what a client has heard [RFC 2244 section 2.2].
use Rattle.std.specs.Prelude.{◌≡◌, ℕ, ◌<◌, ◌≤◌, List, [], ◌∷◌, ◌++◌, length}
use Rattle.acap_grammar.specs.Lines.{Datum, Word, Text, group}
use Rattle.acap_grammar.specs.Listening.{Client}
use Rattle.acap_grammar.specs.Listening as client
use Rattle.acap_client.specs.Data.{Rest, before_all}
use Rattle.acap_client.specs.declared.draft.Draft.{Draft}
use Rattle.acap_client.specs.declared.place.Place.{Place}
use Rattle.acap_client.specs.declared.place.Place.TheVariants as place
use Rattle.acap_client.specs.declared.draft.Token.{Token}
use Rattle.acap_client.specs.declared.draft.Token.TheVariants as token

-- what stands before each parenthesis that is open, the innermost first, and what stands after it
pub record Nest : Type 0 where
  pub outer : List (List Datum)
  pub inner : List Datum

abbrev pub empty : Nest
empty = record { outer = []; inner = [] }

abbrev pub shut : List (List Datum) → List Datum → Nest
shut [] inner = record { outer = []; inner = inner }
shut (first ∷ outer) inner = record { outer = outer; inner = first ++ group inner ∷ [] }

-- with a token more
abbrev pub grown : Nest → Token → Nest
grown nest (token.Word octets) = record { outer = nest.outer; inner = nest.inner ++ Word octets ∷ [] }
grown nest (token.Text octets) = record { outer = nest.outer; inner = nest.inner ++ Text octets ∷ [] }
grown nest token.Open = record { outer = nest.inner ∷ nest.outer; inner = [] }
grown nest token.Close = shut nest.outer nest.inner

abbrev pub nest_from : Nest → List Token → Nest
nest_from nest [] = nest
nest_from nest (first ∷ others) = nest_from (grown nest first) others

abbrev pub nest_of : List Token → Nest
nest_of tokens = nest_from empty tokens

-- a place, with the octets so far of what has begun
abbrev pub place_of : Place → List ℕ → client.Place
place_of place.Between octets = client.Between
place_of place.Fresh octets = client.Fresh
place_of place.Opened octets = client.Fresh
place_of place.Ended octets = client.Ended
place_of place.InWord octets = client.InWord octets
place_of place.InQuotes octets = client.InQuotes octets
place_of place.Escaping octets = client.Escaping octets
place_of place.Marking octets = client.Marking octets
place_of (place.Marked count) octets = client.Marked count
place_of (place.Opening count) octets = client.Opening count
place_of (place.Taking left) octets = client.Taking left octets
place_of place.Returned octets = client.Returned

-- a client that has heard no line yet, and this of one
abbrev pub client_by : Nest → client.Place → Client
client_by nest at = record { lines = []; outer = nest.outer; inner = nest.inner; place = at }

abbrev pub client_of : Draft → Client
client_of draft = client_by (nest_of draft.tokens.items) (place_of draft.place draft.word.items)

-- the data of a whole line, of which these stand before and after each parenthesis that is open
abbrev pub joined : List (List Datum) → List Datum → List Datum → List (List Datum) → List Datum
joined [] inner more others = inner ++ more
joined (first ∷ outer) inner more [] = []
joined (first ∷ outer) inner more (next ∷ others) =
    joined outer (first ++ group (inner ++ more) ∷ []) next others

-- however the tokens go on, their data are those of the nest with what follows
abbrev pub Stands : List Token → Nest → Type 0
Stands tokens nest =
    (rest : Rest) → length rest.outer ≡ length nest.outer
    → (before_all tokens rest).inner ≡ joined nest.outer nest.inner rest.inner rest.outer

-- whether a datum stands before the place
abbrev pub IsInner : Place → List Datum → Type 0
IsInner place.Opened inner = inner ≡ []
IsInner place.Fresh inner = 0 < length inner
IsInner place.Ended inner = 0 < length inner
IsInner _ inner = Unit {0}

-- a place before which anything may stand
abbrev pub IsFree : Place → Type 0
IsFree at = (inner : List Datum) → IsInner at inner

-- what a draft keeps of its tokens is true of them
pub record IsDraft (draft : Draft) : Type 0 where
  pub depth : draft.depth ≡ length (nest_of draft.tokens.items).outer
  pub few : draft.depth ≤ length draft.tokens.items
  pub inner : IsInner draft.place (nest_of draft.tokens.items).inner
  pub stands : Stands draft.tokens.items (nest_of draft.tokens.items)
