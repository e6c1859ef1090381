-- What the parenthesis that stands first in the data of an ENTRY has.
use Rattle.std.proofs.Common.{◌≡◌, ℕ, List, [], ◌∷◌, Option, Some, refl, ap, ◌∙◌, arith}
use Rattle.acap_grammar.specs.Lines.{Datum, Word, Text, Empty, Pair, group}
use Rattle.acap_client.specs.Arguments.{group_at}
use Rattle.acap_shell.specs.Dumping.{all_items, cell_at, list_of, stored_items}
use Rattle.acap_shell.specs.Rows.{attributes_rows, first_texts, inside, list_rows, values}
use Rattle.acap_shell.specs.declared.form.Form.{Form}

inside_group : (ds : List Datum) → inside (group ds) ≡ ds
inside_group [] = refl
inside_group (d ∷ ds) = ap (λ l. d ∷ l) (inside_group ds)

some_group : (ds items others : List Datum)
    → Some (group items, others) ≡ group_at ds → ds ≡ group items ∷ others
some_group [] items others e = grind (arith, e)
some_group (Text first ∷ rest) items others e = grind (arith, e)
some_group (Word first ∷ rest) items others e = grind (arith, e)
some_group (Empty ∷ rest) items others e = grind (arith, e)
some_group (Pair first more ∷ rest) items others e = grind (arith, e)

values_group : (items others : List Datum) → values (group items ∷ others) ≡ first_texts items
values_group [] others = refl
values_group (d ∷ ds) others = ap first_texts (inside_group (d ∷ ds))

-- the values of a list are its strings
pub values_in : (ds items others : List Datum)
    → Some (group items, others) ≡ group_at ds → values ds ≡ first_texts items
values_in ds items others e = ap values (some_group ds items others e) ∙ values_group items others

rows_group : (form : Form) (entry : List ℕ) (items others : List Datum)
    → attributes_rows form entry (group items ∷ others) ≡ list_rows form entry items
rows_group form entry [] others = refl
rows_group form entry (d ∷ ds) others = ap (list_rows form entry) (inside_group (d ∷ ds))

-- the lines of attributes are those of the parentheses in it
pub rows_in : (form : Form) (entry : List ℕ) (ds items others : List Datum)
    → Some (group items, others) ≡ group_at ds
    → attributes_rows form entry ds ≡ list_rows form entry items
rows_in form entry ds items others e =
    ap (attributes_rows form entry) (some_group ds items others e) ∙ rows_group form entry items others

cell_group : (items others : List Datum) → cell_at (group items ∷ others) ≡ Some (list_of items, others)
cell_group [] others = refl
cell_group (d ∷ ds) others = ap (λ l. Some (list_of l, others)) (inside_group (d ∷ ds))

-- a list that stands first has its strings
pub cell_first : (ds items others : List Datum)
    → Some (group items, others) ≡ group_at ds → cell_at ds ≡ Some (list_of items, others)
cell_first ds items others e = ap cell_at (some_group ds items others e) ∙ cell_group items others

stored_group : (items others : List Datum) → stored_items (group items ∷ others) ≡ all_items items
stored_group [] others = refl
stored_group (d ∷ ds) others = ap all_items (inside_group (d ∷ ds))

-- what is stored of an entry is what is stored of the parentheses in its data
pub stored_in : (ds items others : List Datum)
    → Some (group items, others) ≡ group_at ds → stored_items ds ≡ all_items items
stored_in ds items others e = ap stored_items (some_group ds items others e) ∙ stored_group items others
