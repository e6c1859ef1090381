-- The items of a row, which lie in place or in a list: a word of one type's contracts.
use Rattle.std.specs.Prelude.{ℕ, List, [], ◌∷◌}
use Rattle.acap_entries.specs.declared.record.Cell.TheVariants.{Single}
use Rattle.acap_entries.specs.declared.row.Item.{Item}
use Rattle.acap_entries.specs.declared.row.Item.TheVariants.{One}
use Rattle.acap_entries.specs.declared.row.Held.{Held}
use Rattle.acap_entries.specs.declared.row.Held.TheVariants as held
use Rattle.acap_entries.specs.declared.row.LentItems.{LentItems}
use Rattle.acap_entries.specs.declared.row.LentItems.TheVariants as lent

-- one item, which is one string
abbrev pub text_alone : List ℕ → List Item
text_alone text = One (Single text) ∷ []

-- the items, wherever they lie
abbrev pub items_in : Held → List Item
items_in (held.Text text) = text_alone text
items_in (held.List list) = list

-- the items that are lent
abbrev pub items_lent : LentItems → List Item
items_lent (lent.Text text) = text_alone text.now
items_lent (lent.List list) = list.now
