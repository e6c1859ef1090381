-- What stands first in the data of a line [RFC 2244 sections 2.2 and 6].
use Rattle.std.specs.Prelude.{ℕ, Bool, true, false, List, [], ◌∷◌, Option, Some, None, option_map}
use Rattle.std.specs.Prelude.{option_and_then, if◌then◌else◌}
use Rattle.acap_grammar.specs.Lines.{Datum, Word, Text, Empty, Pair, group, number_of, value_of}
use Rattle.acap_client.specs.Data.{before_all, nothing, data_of}
use Rattle.acap_client.specs.declared.data.Data.{Data}
use Rattle.acap_client.specs.declared.number.Number.{Number}
use Rattle.acap_client.specs.declared.draft.Token.{Token}

-- the data from a token on, up to the end of the parenthesis that it stands in
abbrev pub data_in : Data → List Datum
data_in d = data_of d.tokens.now

abbrev pub are_none : List Datum → Bool
are_none [] = true
are_none (first ∷ others) = false

-- a word, a string or a list, and the data after it
abbrev pub word_at : List Datum → Option (List ℕ × List Datum)
word_at (Word word ∷ others) = Some (word, others)
word_at _ = None

abbrev pub text_at : List Datum → Option (List ℕ × List Datum)
text_at (Text text ∷ others) = Some (text, others)
text_at _ = None

abbrev pub group_at : List Datum → Option (Datum × List Datum)
group_at (Empty ∷ others) = Some (Empty, others)
group_at (Pair first more ∷ others) = Some (Pair first more, others)
group_at _ = None

-- a number, and the data after it
abbrev pub with_number : List ℕ × List Datum → Option (ℕ × List Datum)
with_number x = option_map (λ n. (n, x.1)) (number_of x.0)

abbrev pub number_at : List Datum → Option (ℕ × List Datum)
number_at ds = option_and_then with_number (word_at ds)

abbrev pub value_in : Number → ℕ
value_in number = value_of number.digits.now

-- a string, and nothing more
abbrev pub if_alone : List ℕ × List Datum → Option (List ℕ)
if_alone x = if are_none x.1 then Some x.0 else None

abbrev pub text_alone : List Datum → Option (List ℕ)
text_alone ds = option_and_then if_alone (text_at ds)

-- what follows the parenthesis that a token stands in
abbrev pub first_outer : List (List Datum) → List Datum
first_outer [] = []
first_outer (first ∷ outer) = first

abbrev pub outside : List Token → List Datum
outside tokens = first_outer (before_all tokens nothing).outer

-- a code, if one begins the data, and a text, and nothing more
abbrev pub coded_at : List Datum → Option (Option Datum × List ℕ)
coded_at (Pair first more ∷ others) = option_map (λ text. (Some (Pair first more), text)) (text_alone others)
coded_at ds = option_map (λ text. (None, text)) (text_alone ds)

abbrev pub code_in : Option Data → Option Datum
code_in code = option_map (λ d. group (data_in d)) code

-- the strings of a list of strings
abbrev pub all_texts : Option (List (List ℕ)) → List (List ℕ)
all_texts None = []
all_texts (Some texts) = texts
