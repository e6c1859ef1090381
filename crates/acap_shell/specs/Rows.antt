-- What is answered, as lines that are printed [RFC 2244 section 6.4.2].
use Rattle.std.specs.Prelude.{ℕ, List, [], ◌∷◌, ◌++◌, codes, flat_map}
use Rattle.acap_grammar.specs.Lines.{Datum, Word, Text, Empty, Pair}
use Rattle.acap_shell.specs.Escapes.{columns_by, printed_by}
use Rattle.acap_shell.specs.declared.form.Form.{Form}

-- a text and the end of its line; a text and a TAB
abbrev pub line : Form → List ℕ → List ℕ
line form text = printed_by form text ++ codes "\n"

abbrev pub column : Form → List ℕ → List ℕ
column form text = printed_by form text ++ codes "\t"

-- a TAB and a text
abbrev pub cell : Form → List ℕ → List ℕ
cell form text = codes "\t" ++ printed_by form text

-- an entry, an attribute and a value
abbrev pub row : Form → List ℕ → List ℕ → List ℕ → List ℕ
row form entry attribute value = column form entry ++ column form attribute ++ line form value

-- the data of a parenthesis
abbrev pub inside : Datum → List Datum
inside (Pair first others) = first ∷ inside others
inside _ = []

-- the strings that stand first
abbrev pub first_texts : List Datum → List (List ℕ)
first_texts (Text text ∷ others) = text ∷ first_texts others
first_texts _ = []

-- the values of an attribute: a string, those of a list, and none of NIL
abbrev pub values : List Datum → List (List ℕ)
values (Text text ∷ others) = text ∷ []
values (Pair first more ∷ others) = first_texts (inside (Pair first more))
values _ = []

-- a line for each value of an attribute
abbrev pub value_rows : Form → List ℕ → List ℕ → List Datum → List ℕ
value_rows form entry attribute items = flat_map (row form entry attribute) (values items)

-- an attribute and its value
abbrev pub attribute_rows : Form → List ℕ → List Datum → List ℕ
attribute_rows form entry (Text attribute ∷ value) = value_rows form entry attribute value
attribute_rows form entry _ = []

-- the parentheses that stand first, each of an attribute and its value
abbrev pub list_rows : Form → List ℕ → List Datum → List ℕ
list_rows form entry (Pair first more ∷ others) =
    attribute_rows form entry (inside (Pair first more)) ++ list_rows form entry others
list_rows form entry (Empty ∷ others) = list_rows form entry others
list_rows form entry _ = []

-- a parenthesis of such parentheses
abbrev pub attributes_rows : Form → List ℕ → List Datum → List ℕ
attributes_rows form entry (Pair first more ∷ others) = list_rows form entry (inside (Pair first more))
attributes_rows form entry _ = []

-- a line for each pair of an access list, an identifier and its rights with a TAB between them
abbrev pub pair_row : Form → List ℕ → List ℕ
pair_row form pair = columns_by form pair ++ codes "\n"

abbrev pub rights_rows : Form → List Datum → List ℕ
rights_rows form items = flat_map (pair_row form) (values items)
